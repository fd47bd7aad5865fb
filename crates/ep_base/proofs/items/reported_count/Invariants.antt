use Rattle.std.proofs.Common.{◌≡◌, ◌+◌, ◌≤◌, length}
use Rattle.ep_base.specs.Items.{reported_count}
use Rattle.ep_base.proofs.items.reported_count.Given as goal

abbrev pub invariant-loop-item : goal.invariant-loop-item
invariant-loop-item l = (l.count + reported_count l.items ≡ reported_count l.fn.items) × (l.count + length l.items ≤ 65535)

abbrev pub decreases-loop-item : goal.decreases-loop-item
decreases-loop-item l = length l.items
