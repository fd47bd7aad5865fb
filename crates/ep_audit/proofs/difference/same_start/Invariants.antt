use Rattle.std.proofs.Common.{◌≡◌, ◌-◌, drop, length}
use Rattle.ep_audit.specs.Differences.{difference}
use Rattle.ep_audit.proofs.difference.same_start.Given as goal

abbrev pub invariant-loop-place : goal.invariant-loop-place
invariant-loop-place l = difference (drop l.place l.entries) (drop l.place l.others) ≡ difference l.entries l.others

abbrev pub decreases-loop-place : goal.decreases-loop-place
decreases-loop-place l = length l.entries - l.place
