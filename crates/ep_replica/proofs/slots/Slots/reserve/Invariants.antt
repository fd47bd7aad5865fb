use Rattle.std.proofs.Common.{◌≡◌, ◌≤◌, ℕ, length}
use Rattle.ep_replica.specs.Slots.{found}
use Rattle.ep_replica.proofs.slots.Slots.reserve.Given as goal

abbrev pub invariant-loop : goal.invariant-loop
invariant-loop l = record {
  long : l.counter ≤ length l.self-inside.items.items;
  same : (number : ℕ) → found l.self-inside.items.items number ≡ found l.fn.self number;
}
