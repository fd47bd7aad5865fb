use Rattle.ep_bundle.proofs.Readings.{fails}
use Rattle.ep_opening.proofs.stages.read_executed.Goals as goal

pub returns-in_err-count : goal.returns-in_err-count
returns-in_err-count g c = λ y0 e0. fails _ _ _ _ _ _ _ _ (c.in_err-count.ensures y0 e0) c.from_residual.ensures.1
