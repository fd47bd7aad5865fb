use Rattle.std.proofs.Common.{◌+◌, ◌≤◌, vec_len, vec_capacity}
use Rattle.ep_node.specs.Nodes.{TakesEach}
use Rattle.ep_node.proofs.taking.take_each.Given as goal

abbrev pub invariant-loop-event : goal.invariant-loop-event
invariant-loop-event l = record {
  so_far : TakesEach l.fn.replica l.yielded l.reported.items l.replica;
  room : vec_len l.reported + l.event-iterator.rest.len ≤ vec_capacity l.reported;
}
