use Rattle.ep_rules.proofs.Runs.{validity_holds}
use Rattle.ep_rules.proofs.safety.validity.Goals as goal

pub returns : goal.returns
returns c = validity_holds
