use Rattle.ep_rules.proofs.JournalsCallers.{caller_order_lem}
use Rattle.ep_rules.proofs.merging.caller_order.Goals as goal

pub returns : goal.returns
returns c = caller_order_lem
