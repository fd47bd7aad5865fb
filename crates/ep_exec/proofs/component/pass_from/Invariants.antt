use Rattle.std.proofs.Common.{◌≡◌, ◌-◌, drop, length}
use Rattle.ep_exec.specs.Ready.{passed}
use Rattle.ep_exec.proofs.component.pass_from.Given as goal

abbrev pub invariant-loop-place : goal.invariant-loop-place
invariant-loop-place l = passed l.finished (drop l.place l.waits) ≡ passed l.finished (drop l.from l.waits)

abbrev pub decreases-loop-place : goal.decreases-loop-place
decreases-loop-place l = length l.waits - l.place
