use Rattle.std.proofs.Common.{sym, ◌∙◌}
use Rattle.ep_frame.specs.Meaning.{sender_at}
use Rattle.ep_journal.proofs.Handled.{settled_by}
use Rattle.ep_journal.proofs.deciding.is_settled_by.Goals as goal

pub returns-in-Some : goal.returns-in-Some
returns-in-Some c = λ holds.
    let b = c.args.frame.now in
    settled_by c.args.cell.now (sender_at b) b c.in-Some.vote.now c.has_decree.result c.requires (sym c.is_committed.ensures ∙ c.if-is_committed.false) c.in-Some.ensures c.has_decree.ensures holds
