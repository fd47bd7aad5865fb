use Rattle.std.proofs.Common.{◌≡◌}
use Rattle.ep_audit.specs.Turns.{least_of}
use Rattle.ep_audit.proofs.entry_place.least.Given as goal

abbrev pub invariant-loop-place : goal.invariant-loop-place
invariant-loop-place l = l.best ≡ least_of l.place l.turns
