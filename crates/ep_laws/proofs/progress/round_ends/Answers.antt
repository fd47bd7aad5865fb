use Rattle.ep_laws.proofs.AnyRun.{round_ends_lem}
use Rattle.ep_laws.proofs.progress.round_ends.Goals as goal

pub returns : goal.returns
returns c = round_ends_lem
