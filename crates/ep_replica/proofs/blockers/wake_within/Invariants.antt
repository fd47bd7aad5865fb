use Rattle.std.proofs.Common.{◌≡◌, ◌≤◌, ◌<◌, ℕ, true, length}
use Rattle.ep_base.specs.Instances.{highest_number}
use Rattle.ep_replica.specs.Blockers.{is_due}
use Rattle.ep_replica.proofs.Waking.{AreWoken}
use Rattle.ep_replica.proofs.blockers.wake_within.Given as goal

abbrev pub invariant-loop-number : goal.invariant-loop-number
invariant-loop-number l = record {
  woken : AreWoken l.fn.instance l.fn.span.first l.number l.fn.items.items l.items.items l.due l.left;
  top : (n : ℕ) → l.fn.span.first ≤ n → n < l.number → (n < l.fn.span.end) × (n ≤ highest_number);
  more : (n : ℕ) → is_due l.fn.due n ≡ true → is_due l.due n ≡ true;
  long : length l.items.items ≡ length l.fn.items.items;
  room : length l.due ≡ length l.fn.due;
}
