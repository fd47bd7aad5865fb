use Rattle.std.proofs.Common.{◌≡◌, length, []}
use Rattle.ep_base.specs.Items.{rise_above}
use Rattle.ep_base.proofs.items.do_rise.Given as goal

abbrev pub invariant-loop-item : goal.invariant-loop-item
invariant-loop-item l = rise_above l.above l.items ≡ rise_above [] l.fn.items

abbrev pub decreases-loop-item : goal.decreases-loop-item
decreases-loop-item l = length l.items
