use Rattle.std.proofs.Common.{arith}
use Rattle.ep_base.proofs.Bound.{length-instances}
use Rattle.ep_frame.specs.Fields.{deps_in}
use Rattle.ep_frame.proofs.deps_view.count_in.Goals as goal

pub returns-clause-bound : goal.returns-clause-bound
returns-clause-bound c = let few = length-instances (deps_in c.args.bytes.now) c.requires.deps.rising c.requires.deps.instances in omega (arith, few, c.requires.whole)
