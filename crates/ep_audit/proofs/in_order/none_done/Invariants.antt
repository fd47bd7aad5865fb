use Rattle.std.proofs.Common.{◌≡◌, replicate}
use Rattle.ep_audit.proofs.in_order.none_done.Given as goal

abbrev pub invariant-loop : goal.invariant-loop
invariant-loop l = l.done.items ≡ replicate l.counter 0
