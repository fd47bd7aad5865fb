use Rattle.ep_base.proofs.Interfering.{interference_law_holds}
use Rattle.ep_base.proofs.interference.interference_law.Goals as goal

pub returns : goal.returns
returns c = interference_law_holds
