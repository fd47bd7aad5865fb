use Rattle.ep_rules.proofs.OneFault.{faults_are_first_lem}
use Rattle.ep_rules.proofs.merging.faults_are_first.Goals as goal

pub returns : goal.returns
returns c = faults_are_first_lem
