use Rattle.ep_laws.proofs.Waiting.{nothing_waits_lem}
use Rattle.ep_laws.proofs.progress.nothing_waits.Goals as goal

pub returns : goal.returns
returns c = nothing_waits_lem
