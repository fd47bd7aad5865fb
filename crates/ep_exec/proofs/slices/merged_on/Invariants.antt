use Rattle.std.proofs.Common.{◌≡◌, List, ℕ}
use Rattle.ep_exec.specs.Settling.{IsMerging}
use Rattle.ep_exec.proofs.slices.merged_on.Given as goal

abbrev pub invariant-loop-left : goal.invariant-loop-left
invariant-loop-left l = (whole : List (List ℕ × List ℕ)) → IsMerging whole l.base l.fn.slices → IsMerging whole l.base l.slices

abbrev pub decreases-loop-left : goal.decreases-loop-left
decreases-loop-left l = l.left
