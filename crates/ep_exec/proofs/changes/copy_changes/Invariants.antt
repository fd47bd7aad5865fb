use Rattle.std.proofs.Common.{◌≡◌, drop}
use Rattle.ep_rules.specs.OneMap.{Contents}
use Rattle.ep_exec.specs.Table.{over}
use Rattle.ep_exec.proofs.changes.copy_changes.Given as goal

abbrev pub invariant-loop-index : goal.invariant-loop-index
invariant-loop-index l = (m : Contents) → over m l.copy.entries ≡ over m (drop l.index l.changes.entries)
