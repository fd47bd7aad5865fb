use Rattle.std.proofs.Common.{◌≡◌, ◌≤◌, ◌<◌, ℕ, true, length}
use Rattle.ep_replica.specs.Blockers.{is_due}
use Rattle.ep_replica.proofs.due_numbers.DueNumbers.all.Given as goal

abbrev pub invariant-loop-number : goal.invariant-loop-number
invariant-loop-number l = record {
  room : l.top < length l.due;
  set : (n : ℕ) → 1 ≤ n → n < l.number → is_due l.due n ≡ true;
}
