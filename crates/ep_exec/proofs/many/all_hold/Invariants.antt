use Rattle.std.proofs.Common.{◌≡◌, length}
use Rattle.ep_exec.specs.Held.{held}
use Rattle.ep_rules.specs.OneMap.{all_hold}
use Rattle.ep_exec.proofs.many.all_hold.Given as goal

abbrev pub invariant-loop-item : goal.invariant-loop-item
invariant-loop-item l = all_hold (held l.table) l.items ≡ all_hold (held l.table) l.fn.items

abbrev pub decreases-loop-item : goal.decreases-loop-item
decreases-loop-item l = length l.items
