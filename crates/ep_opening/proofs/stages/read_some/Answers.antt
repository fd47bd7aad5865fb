use Rattle.ep_bundle.proofs.Readings.{fails}
use Rattle.ep_opening.proofs.stages.read_some.Goals as goal

pub returns-in_err-value : goal.returns-in_err-value
returns-in_err-value g c = λ y0 e0. fails _ _ _ _ _ _ _ _ (c.in_err-value.ensures y0 e0) c.from_residual.ensures.1
