use Rattle.ep_rules.proofs.FewInstances.{instances_are_few_lem}
use Rattle.ep_rules.proofs.counts.instances_are_few.Goals as goal

pub returns : goal.returns
returns c = instances_are_few_lem
