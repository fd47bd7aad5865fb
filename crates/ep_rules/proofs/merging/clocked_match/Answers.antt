use Rattle.ep_rules.proofs.OwnReceipts.{clocked_match_lem}
use Rattle.ep_rules.proofs.merging.clocked_match.Goals as goal

pub returns : goal.returns
returns c = clocked_match_lem
