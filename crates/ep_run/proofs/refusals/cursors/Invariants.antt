use Rattle.std.proofs.Common.{◌≡◌, replicate}
use Rattle.ep_run.proofs.refusals.cursors.Given as goal

abbrev pub invariant-loop : goal.invariant-loop
invariant-loop l = l.cursors.items ≡ replicate l.counter (record { place = 0; reported = 0 })
