use Rattle.ep_rules.proofs.OwnReceipts.{own_stays_lem}
use Rattle.ep_rules.proofs.merging.own_stays.Goals as goal

pub returns : goal.returns
returns c = own_stays_lem
