use Rattle.std.proofs.Common.{◌≡◌, length}
use Rattle.ep_base.specs.Items.{none_writes}
use Rattle.ep_base.proofs.items.none_writes.Given as goal

abbrev pub invariant-loop-item : goal.invariant-loop-item
invariant-loop-item l = none_writes l.items ≡ none_writes l.fn.items

abbrev pub decreases-loop-item : goal.decreases-loop-item
decreases-loop-item l = length l.items
