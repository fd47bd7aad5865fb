use Rattle.std.proofs.Common.{◌≢◌, ◌≤◌, ◌<◌, ℕ, true}
use Rattle.ep_replica.specs.Blockers.{is_due}
use Rattle.ep_replica.proofs.due_numbers.first_set.Given as goal

abbrev pub invariant-loop-number : goal.invariant-loop-number
invariant-loop-number l = record {
  low : l.fn.first ≤ l.number;
  unset : (n : ℕ) → l.fn.first ≤ n → n < l.number → is_due l.flags n ≢ true;
}
