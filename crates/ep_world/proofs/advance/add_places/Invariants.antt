use Rattle.std.proofs.Common.{◌≡◌, ◌+◌, ◌++◌, vec_len, vec_capacity}
use Rattle.ep_world.specs.Replicas.{places_up_to}
use Rattle.ep_world.proofs.advance.add_places.Given as goal

abbrev pub invariant-loop-out : goal.invariant-loop-out
invariant-loop-out l = record {
  so_far : l.messages.items ≡ l.fn.messages.items ++ places_up_to l.me l.entry.number l.out;
  count : vec_len l.messages ≡ vec_len l.fn.messages + l.out;
  room : vec_capacity l.messages ≡ vec_capacity l.fn.messages;
}
