use Rattle.std.proofs.Common.{◌≡◌, length}
use Rattle.ep_exec.specs.Walk.{flat, stack, merged}
use Rattle.ep_exec.proofs.level.merge.Given as goal

abbrev pub invariant-loop-instance : goal.invariant-loop-instance
invariant-loop-instance l = merged (flat l.top) (stack l.path.items) l.instance ≡ merged (flat l.initial.top) (stack l.fn.path.items) l.instance

abbrev pub decreases-loop-instance : goal.decreases-loop-instance
decreases-loop-instance l = length l.path.items
