use Rattle.std.proofs.Common.{◌≡◌, length}
use Rattle.ep_base.specs.Interference.{has_key}
use Rattle.ep_base.specs.Items.{item_keys}
use Rattle.ep_base.proofs.items.has_item.Given as goal

abbrev pub invariant-loop-item : goal.invariant-loop-item
invariant-loop-item l = has_key l.key (item_keys l.items) ≡ has_key l.key (item_keys l.fn.items)

abbrev pub decreases-loop-item : goal.decreases-loop-item
decreases-loop-item l = length l.items
