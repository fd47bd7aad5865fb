use Rattle.ep_bundle.proofs.Readings.{fails}
use Rattle.ep_opening.proofs.stages.read_seal.Goals as goal

pub returns-in_err-read_mark : goal.returns-in_err-read_mark
returns-in_err-read_mark g c = λ y0 e0. fails _ _ _ _ _ _ _ _ (c.in_err-read_mark.ensures y0 e0) c.from_residual.ensures.1
