use Rattle.ep_laws.proofs.Same.{same_run}
use Rattle.ep_laws.proofs.progress.alone_is_run.Goals as goal

pub returns : goal.returns
returns c = same_run
