use Rattle.std.proofs.Common.{Some, None, slice_get, ap, ◌∙◌}
use Rattle.ep_journal.specs.Entries.{entries_at}
use Rattle.ep_audit.proofs.Rows.{finds}
use Rattle.ep_audit.proofs.proposals.Proposals.find.Goals as goal

pub returns-in-Some : goal.returns-in-Some
returns-in-Some c =
    c.entry_in.ensures
    ∙ ap (λ es. slice_get es c.in-Some.place) (c.entries_of-entries.ensures ∙ ap (entries_at c.args.journals.now) c.replica.ensures)
    ∙ finds c.args.journals.now c.args.self.now c.args.instance (Some c.in-Some.place) c.requires.journals c.requires.rows c.in-Some.ensures.number c.in-Some.ensures.value

pub returns-in-None : goal.returns-in-None
returns-in-None c = finds c.args.journals.now c.args.self.now c.args.instance None c.requires.journals c.requires.rows c.in-None.ensures.number c.in-None.ensures.value
