use Rattle.ep_rules.proofs.Played.{played_match_lem}
use Rattle.ep_rules.proofs.merging.played_match.Goals as goal

pub returns : goal.returns
returns c = played_match_lem
