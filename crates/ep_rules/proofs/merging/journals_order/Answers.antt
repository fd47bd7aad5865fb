use Rattle.ep_rules.proofs.JournalsOrders.{journals_order_lem}
use Rattle.ep_rules.proofs.merging.journals_order.Goals as goal

pub returns : goal.returns
returns c = journals_order_lem
