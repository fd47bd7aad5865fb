use Rattle.ep_rules.proofs.Runs.{agreement_holds}
use Rattle.ep_rules.proofs.safety.agreement.Goals as goal

pub returns : goal.returns
returns c = agreement_holds
