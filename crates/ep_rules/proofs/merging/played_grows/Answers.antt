use Rattle.ep_rules.proofs.JournalsGrow.{played_grows_lem}
use Rattle.ep_rules.proofs.merging.played_grows.Goals as goal

pub returns : goal.returns
returns c = played_grows_lem
