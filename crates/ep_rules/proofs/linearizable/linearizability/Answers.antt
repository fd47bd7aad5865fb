use Rattle.ep_rules.proofs.RunsLinear.{linearizability_holds}
use Rattle.ep_rules.proofs.linearizable.linearizability.Goals as goal

pub returns : goal.returns
returns c = linearizability_holds
