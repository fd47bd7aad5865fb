use Rattle.std.proofs.Common.{◌≡◌, ◌++◌, length}
use Rattle.ep_exec.specs.Held.{held}
use Rattle.ep_rules.specs.OneMap.{reply_values}
use Rattle.ep_exec.proofs.many.reply_values.Given as goal

abbrev pub invariant-loop-item : goal.invariant-loop-item
invariant-loop-item l = l.values.items ++ reply_values (held l.table) l.items ≡ reply_values (held l.table) l.fn.items

abbrev pub decreases-loop-item : goal.decreases-loop-item
decreases-loop-item l = length l.items
