use Rattle.std.proofs.Common.{◌≡◌, ◌≤◌, ℕ, length}
use Rattle.ep_replica.specs.FirstExecutions.{spot_at}
use Rattle.ep_replica.proofs.first_executions.FirstExecutions.make_room.Given as goal

abbrev pub invariant-loop : goal.invariant-loop
invariant-loop l = record {
  long : l.counter ≤ length l.self-inside.items.items;
  same : (number : ℕ) → spot_at l.self-inside.items.items number ≡ spot_at l.fn.self number;
}
