use Rattle.std.proofs.Common.{◌≡◌, length}
use Rattle.ep_base.specs.Interference.{keys_of, share_key}
use Rattle.ep_base.specs.Items.{item_keys}
use Rattle.ep_base.proofs.interference.is_one_named.Given as goal

abbrev pub invariant-loop-item : goal.invariant-loop-item
invariant-loop-item l = share_key (item_keys l.items) (keys_of l.b) ≡ share_key (item_keys l.fn.items) (keys_of l.b)

abbrev pub decreases-loop-item : goal.decreases-loop-item
decreases-loop-item l = length l.items
