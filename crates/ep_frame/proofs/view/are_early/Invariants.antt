use Rattle.std.proofs.Common.{◌≡◌, length}
use Rattle.ep_frame.specs.Faults.{are_early}
use Rattle.ep_frame.specs.Fields.{deps_in}
use Rattle.ep_frame.proofs.view.are_early.Given as goal

abbrev pub invariant-loop-rest : goal.invariant-loop-rest
invariant-loop-rest l = are_early l.most (deps_in l.rest) ≡ are_early l.most (deps_in l.bytes)

abbrev pub decreases-loop-rest : goal.decreases-loop-rest
decreases-loop-rest l = length l.rest
