use Rattle.std.proofs.Common.{◌≡◌, ◌++◌, drop}
use Rattle.ep_exec.specs.Cut.{left_in}
use Rattle.ep_exec.specs.Ready.{waits_for}
use Rattle.ep_exec.proofs.component.waits_of.Given as goal

abbrev pub invariant-loop-instance : goal.invariant-loop-instance
invariant-loop-instance l =
    l.waits.items ++ waits_for (left_in l.space.records l.skipped.list) l.component (drop l.instance-index l.component)
    ≡ waits_for (left_in l.space.records l.skipped.list) l.component l.component
