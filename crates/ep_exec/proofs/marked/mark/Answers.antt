use Rattle.std.proofs.Common.{◌<◌, ◌++◌, ◌∷◌, [], true, sym, subst, length, slice_set}
use Rattle.ep_exec.specs.Marks.{AreMarks}
use Rattle.ep_exec.proofs.Marking.{marks_wider, marks_more}
use Rattle.ep_exec.proofs.marked.mark.Goals as goal

pub returns-clause-ok : goal.returns-clause-ok
returns-clause-ok c is s =
    let wide = c.widen.new.marks.items in
    let j = c.args.instance in
    let within = subst (λ k. k < length wide) c.slot_of-slot.ensures.value c.in_ok-widen.ensures.slot in
    subst (λ k. AreMarks (is ++ j ∷ []) (slice_set wide k true)) (sym c.slot_of-slot.ensures.value)
    (marks_more is wide j (marks_wider is c.args.marks.now.items wide s c.widen.ensures.same) c.slot_of-slot.ensures.in_range within)
