use Rattle.ep_rules.proofs.Interleaved.{one_order_lem}
use Rattle.ep_rules.proofs.history.one_order.Goals as goal

pub returns : goal.returns
returns c = one_order_lem
