use Rattle.std.proofs.Common.{◌≡◌, ◌++◌, drop, map}
use Rattle.ep_exec.specs.Cut.{left_in}
use Rattle.ep_exec.specs.Ready.{waiting_of}
use Rattle.ep_exec.specs.Walk.{lists}
use Rattle.ep_exec.proofs.component.parts_of.Given as goal

abbrev pub invariant-loop-component : goal.invariant-loop-component
invariant-loop-component l =
    l.parts.items ++ map (waiting_of (left_in l.space.records l.skipped.list)) (lists (drop l.component-index l.found))
    ≡ map (waiting_of (left_in l.space.records l.skipped.list)) (lists l.found)
