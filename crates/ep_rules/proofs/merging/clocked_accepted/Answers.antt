use Rattle.ep_rules.proofs.OwnReceipts.{clocked_accepted_lem}
use Rattle.ep_rules.proofs.merging.clocked_accepted.Goals as goal

pub returns : goal.returns
returns c = clocked_accepted_lem
