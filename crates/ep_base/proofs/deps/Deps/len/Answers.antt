use Rattle.ep_base.proofs.Bound.{length-instances}
use Rattle.ep_base.proofs.deps.Deps.len.Goals as goal

pub returns-clause-bound : goal.returns-clause-bound
returns-clause-bound c = rw c.as_slice.ensures.value (length-instances c.args.self.now c.as_slice.ensures.rising c.as_slice.ensures.instances)
