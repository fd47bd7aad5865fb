use Rattle.std.proofs.Common.{sym, ap, ◌∙◌}
use Rattle.ep_base.specs.Attributes.{same_list}
use Rattle.ep_space.proofs.Standing.{stands-here}
use Rattle.ep_space.proofs.index.stands_at.Goals as goal

pub returns-in-Some : goal.returns-in-Some
returns-in-Some c = λ is.
    stands-here c.args.runs.now.entries c.args.at c.args.key.now (c.in-Some.own.now, c.in-Some.field-0-1.now)
    (sym c.in-Some.ensures.entry)
    (ap (same_list c.args.key.now) (sym c.as_slice.ensures.value) ∙ sym c.eq.ensures ∙ is)
