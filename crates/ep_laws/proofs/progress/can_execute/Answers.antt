use Rattle.ep_laws.proofs.Executing.{can_execute_lem}
use Rattle.ep_laws.proofs.progress.can_execute.Goals as goal

pub returns : goal.returns
returns c = can_execute_lem
