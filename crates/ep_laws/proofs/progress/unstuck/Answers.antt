use Rattle.ep_laws.proofs.Knowing.{unstuck_lem}
use Rattle.ep_laws.proofs.progress.unstuck.Goals as goal

pub returns : goal.returns
returns c = unstuck_lem
