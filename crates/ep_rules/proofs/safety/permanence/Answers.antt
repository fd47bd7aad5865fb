use Rattle.ep_rules.proofs.Permanence.{permanence_holds}
use Rattle.ep_rules.proofs.safety.permanence.Goals as goal

pub returns : goal.returns
returns c = permanence_holds
