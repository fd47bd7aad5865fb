use Rattle.std.proofs.Common.{◌≡◌, ◌+◌, ◌≤◌, length, vec_len, vec_capacity}
use Rattle.ep_host.specs.Finishing.{StartAs}
use Rattle.ep_host.proofs.lock_host.journals_of.Given as goal

abbrev pub invariant-loop-seat : goal.invariant-loop-seat
invariant-loop-seat g l = record {
  start : StartAs g.S.Start.start l.journals.items;
  count : vec_len l.journals ≡ length l.yielded;
  room : vec_len l.journals + l.seat-iterator.rest.len ≤ vec_capacity l.journals;
}
