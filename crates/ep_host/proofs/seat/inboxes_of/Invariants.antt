use Rattle.std.proofs.Common.{◌≡◌, length, All}
use Rattle.ep_host.specs.Outboxes.{IsOpen}
use Rattle.ep_host.proofs.seat.inboxes_of.Given as goal

abbrev pub invariant-loop : goal.invariant-loop
invariant-loop l = record { count : length l.inboxes.items ≡ l.counter; new : All (IsOpen l.capacity) l.inboxes.items }
