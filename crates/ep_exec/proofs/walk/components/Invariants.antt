use Rattle.ep_exec.specs.Cut.{left_in}
use Rattle.ep_exec.specs.Walk.{stack, lists, Sees}
use Rattle.ep_exec.proofs.OverMap.{universe}
use Rattle.ep_exec.proofs.Paths.{IsWalk}
use Rattle.ep_exec.proofs.Size.{size}
use Rattle.ep_exec.proofs.walk.components.Given as goal

abbrev pub invariant-loop-top : goal.invariant-loop-top
invariant-loop-top l = record {
  walk : IsWalk (left_in l.space.records l.skipped.list) l.fn.root (universe l.space.records) l.walk.closed (lists l.found.items) (stack l.walk.path.items);
  seen : Sees l.walk.seen l.walk.closed (stack l.walk.path.items);
}

abbrev pub decreases-loop-top : goal.decreases-loop-top
decreases-loop-top l = size (left_in l.space.records l.skipped.list) (universe l.space.records) l.walk.closed (stack l.walk.path.items)
