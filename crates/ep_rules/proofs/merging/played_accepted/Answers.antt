use Rattle.ep_rules.proofs.OneFault.{played_accepted_lem}
use Rattle.ep_rules.proofs.merging.played_accepted.Goals as goal

pub returns : goal.returns
returns c = played_accepted_lem
