use Rattle.ep_laws.proofs.Finishing.{can_finish_lem}
use Rattle.ep_laws.proofs.progress.can_finish.Goals as goal

pub returns : goal.returns
returns c = can_finish_lem
