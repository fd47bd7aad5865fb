use Rattle.ep_viewer.proofs.Ending.{concludes_from}
use Rattle.ep_viewer.proofs.program.perform.Goals as goal

pub returns : goal.returns
returns g c zs known = record {
  outcome = _;
  does = c.attempt-outcome.ensures.done zs known;
  concludes = concludes_from g.F.Sink.held g.F.Sink.has_failed _ _ _ _ _ c.attempt-outcome.ensures.unreported c.concluded.ensures;
  read = c.attempt-outcome.ensures.read;
  written = c.attempt-outcome.ensures.written;
}
