use Rattle.std.proofs.Common.{◌≡◌, ◌≢◌, ◌≤◌, ◌+◌, ◌⊎◌, ℕ, None, IfSome, true, length}
use Rattle.ep_base.specs.Instances.{highest_number}
use Rattle.ep_replica.specs.Blockers.{blocker_of, is_flagged}
use Rattle.ep_replica.specs.Spans.{IsWithin}
use Rattle.ep_replica.proofs.blockers.Blockers.reserve.Given as goal

abbrev pub invariant-loop : goal.invariant-loop
invariant-loop l = record {
  long : length l.self-inside.items.items ≡ l.counter;
  few : (l.counter ≤ length l.fn.self) ⊎ (l.counter ≤ l.top + 1);
  same : (n : ℕ) → blocker_of l.self-inside.items.items n ≡ blocker_of l.fn.self n;
  awaited : (n : ℕ) → IfSome (blocker_of l.self-inside.items.items n) (λ i. is_flagged l.self-inside.awaited.items i ≡ true);
  within : (n : ℕ) → blocker_of l.self-inside.items.items n ≢ None → IsWithin l.self-inside.span n × (n ≤ highest_number);
}
