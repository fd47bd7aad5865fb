use Rattle.std.proofs.Common.{refl, take}
use Rattle.ep_node.specs.Reporting.{about_by, learnt_by}
use Rattle.ep_node.proofs.Noting.{first_more, knows_next, knows_same}
use Rattle.ep_node.proofs.notes.Notes.note.Goals as goal

pub returns-in_err-reserve-clause-known : goal.returns-in_err-reserve-clause-known
returns-in_err-reserve-clause-known c =
    knows_same c.args.entries.now c.args.self.now.seen c.args.self.now.about c.reserve.new.self c.args.self.now.commits c.args.self.now.commits c.reserve.ensures.same (λ i. refl) c.requires.known

pub returns-in_err-reserve-2-clause-known : goal.returns-in_err-reserve-2-clause-known
returns-in_err-reserve-2-clause-known c =
    knows_same c.args.entries.now c.args.self.now.seen c.args.self.now.about c.reserve.new.self c.args.self.now.commits c.reserve-2.new.self c.reserve.ensures.same c.reserve-2.ensures.same c.requires.known

pub returns-clause-known : goal.returns-clause-known
returns-clause-known c =
    let es = c.args.entries.now in
    let n = c.args.self.now.seen in
    let e = c.index-entries-self.result in
    knows_next es n e c.reserve.new.self c.note.new.self c.reserve-2.new.self c.note-2.new.self c.requires.next c.index-entries-self.is
    (first_more about_by (take n es) e _ _ _ _ c.about_by-about.ensures refl c.note.ensures.noted) (first_more learnt_by (take n es) e _ _ _ _ c.learnt_by-learnt.ensures refl c.note-2.ensures.noted)
    (knows_same es n c.args.self.now.about c.reserve.new.self c.args.self.now.commits c.reserve-2.new.self c.reserve.ensures.same c.reserve-2.ensures.same c.requires.known)
