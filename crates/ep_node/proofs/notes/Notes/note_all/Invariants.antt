use Rattle.std.proofs.Common.{◌-◌, length}
use Rattle.ep_node.specs.Reporting.{Knows}
use Rattle.ep_node.proofs.notes.Notes.note_all.Given as goal

abbrev pub invariant-loop-self : goal.invariant-loop-self
invariant-loop-self l = Knows l.entries l.self.seen l.self.about l.self.commits

abbrev pub decreases-loop-self : goal.decreases-loop-self
decreases-loop-self l = length l.entries - l.self.seen
