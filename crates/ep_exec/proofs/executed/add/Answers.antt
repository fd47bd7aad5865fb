use Rattle.std.proofs.Common.{◌<◌, true, sym, subst, length, slice_set, arith}
use Rattle.ep_space.specs.Entries.{slot}
use Rattle.ep_exec.specs.Marks.{AreMarks}
use Rattle.ep_exec.proofs.Marking.{marks_more}
use Rattle.ep_exec.proofs.executed.add.Goals as goal

pub returns-clause-marks : goal.returns-clause-marks
returns-clause-marks c =
    let is = c.args.list.now.items in
    let ms = c.args.marks.now.items in
    let j = c.args.instance in
    let within : slot j < length ms = c.requires.slot in
    subst (λ s. AreMarks c.push_reserved.new.self.items (slice_set ms s true)) (sym c.slot_of.ensures.value)
    (subst (λ xs. AreMarks xs (slice_set ms (slot j) true)) (sym c.push_reserved.ensures.items) (marks_more is ms j c.requires.marks c.slot_of.ensures.in_range within))
