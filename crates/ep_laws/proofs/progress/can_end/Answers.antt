use Rattle.ep_laws.proofs.Ending.{can_end_lem}
use Rattle.ep_laws.proofs.progress.can_end.Goals as goal

pub returns : goal.returns
returns c = can_end_lem
