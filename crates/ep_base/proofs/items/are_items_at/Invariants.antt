use Rattle.std.proofs.Common.{◌≡◌}
use Rattle.ep_base.specs.CommandParts.{are_items_at}
use Rattle.ep_base.proofs.items.are_items_at.Given as goal

abbrev pub invariant-loop-left : goal.invariant-loop-left
invariant-loop-left l = are_items_at l.left l.rest ≡ are_items_at l.count l.bytes

abbrev pub decreases-loop-left : goal.decreases-loop-left
decreases-loop-left l = l.left
