use Rattle.std.proofs.Common.{◌≡◌, length}
use Rattle.ep_rules.specs.OneMap.{Contents}
use Rattle.ep_exec.specs.Table.{over}
use Rattle.ep_exec.proofs.changes.put_over.Given as goal

abbrev pub invariant-loop-key : goal.invariant-loop-key
invariant-loop-key l = (m : Contents) → over (over m l.all.entries) l.newer.entries ≡ over (over m l.fn.older.entries) l.fn.newer.entries

abbrev pub decreases-loop-key : goal.decreases-loop-key
decreases-loop-key l = length l.newer.entries
