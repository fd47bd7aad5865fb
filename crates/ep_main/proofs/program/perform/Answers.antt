use Rattle.ep_main.proofs.Ending.{concludes_from, ends, performs}
use Rattle.ep_main.proofs.program.perform.Goals as goal

pub returns-clause-performs : goal.returns-clause-performs
returns-clause-performs g c zs known =
    performs _ _ _ _ _ _ _ (c.attempt-outcome.ensures.done zs known) (record { read = c.attempt-outcome.ensures.read; written = c.attempt-outcome.ensures.written })
    (concludes_from g.F.Sink.held g.F.Sink.has_failed _ _ _ _ _ c.attempt-outcome.ensures.unreported c.concluded.ensures)

pub returns-clause-ends : goal.returns-clause-ends
returns-clause-ends g c =
    ends _ _ _ _ _ c.attempt-outcome.ensures.verdict (record { read = c.attempt-outcome.ensures.read; written = c.attempt-outcome.ensures.written })
    (concludes_from g.F.Sink.held g.F.Sink.has_failed _ _ _ _ _ c.attempt-outcome.ensures.unreported c.concluded.ensures)
