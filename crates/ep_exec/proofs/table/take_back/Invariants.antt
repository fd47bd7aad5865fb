use Rattle.std.proofs.Common.{◌≡◌}
use Rattle.ep_exec.specs.Table.{HavePlaces, restored}
use Rattle.ep_exec.specs.Held.{held}
use Rattle.ep_exec.proofs.table.take_back.Given as goal

abbrev pub invariant-loop-key : goal.invariant-loop-key
invariant-loop-key l = record {
  same : restored l.undo.items (held l.table) ≡ restored l.fn.undo.items (held l.fn.table);
  places : HavePlaces l.table.changes.entries l.undo.items;
}

abbrev pub decreases-loop-key : goal.decreases-loop-key
decreases-loop-key l = goal.left-loop-key l
