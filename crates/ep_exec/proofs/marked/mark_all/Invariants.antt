use Rattle.std.proofs.Common.{take}
use Rattle.ep_exec.specs.Marks.{AreMarks}
use Rattle.ep_exec.proofs.marked.mark_all.Given as goal

abbrev pub invariant-loop-instance : goal.invariant-loop-instance
invariant-loop-instance l = AreMarks (take l.instance-index l.list) l.marks.items
