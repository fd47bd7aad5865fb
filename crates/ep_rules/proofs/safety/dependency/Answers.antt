use Rattle.ep_rules.proofs.Pairs.{dependency_holds}
use Rattle.ep_rules.proofs.safety.dependency.Goals as goal

pub returns : goal.returns
returns c = dependency_holds
