use Rattle.std.proofs.Common.{◌≡◌, ◌+◌, ◌≤◌, length, vec_len, vec_capacity}
use Rattle.ep_exec.specs.Held.{held}
use Rattle.ep_exec.specs.Many.{put_all, AreRoomy}
use Rattle.ep_exec.specs.Table.{HavePlaces, restored}
use Rattle.ep_exec.proofs.many.put_all.Given as goal

abbrev pub invariant-loop-write : goal.invariant-loop-write
invariant-loop-write l = record {
  contents : put_all l.write-iterator.rest.items (held l.table) ≡ put_all l.fn.writes.items (held l.fn.table);
  undo : restored l.undo.items (held l.table) ≡ restored l.fn.undo.items (held l.fn.table);
  places : HavePlaces l.fn.table.changes.entries l.fn.undo.items → HavePlaces l.table.changes.entries l.undo.items;
  roomy : AreRoomy l.table.changes.entries l.write-iterator.rest.items;
  room : vec_len l.undo + length l.write-iterator.rest.items ≤ vec_capacity l.undo;
}
