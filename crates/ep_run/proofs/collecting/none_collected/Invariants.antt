use Rattle.std.proofs.Common.{◌≡◌, replicate}
use Rattle.ep_run.proofs.collecting.none_collected.Given as goal

abbrev pub invariant-loop : goal.invariant-loop
invariant-loop l = l.collected.items ≡ replicate l.counter 0
