use Rattle.std.proofs.Common.{◌≡◌, ◌+◌, vec_len}
use Rattle.ep_host.proofs.lock_host.add_seats.Given as goal

abbrev pub invariant-loop-number : goal.invariant-loop-number
invariant-loop-number g l = vec_len l.seats ≡ vec_len l.fn.seats + l.number
