use Rattle.std.proofs.Common.{take}
use Rattle.ep_opening.specs.Gathering.{Gains, WasAnsweredIn}
use Rattle.ep_opening.proofs.answered.note_all.Given as goal

abbrev pub invariant-loop-instance : goal.invariant-loop-instance
invariant-loop-instance l = Gains (WasAnsweredIn (take l.instance-index l.done)) l.initial.set.list l.set.list
