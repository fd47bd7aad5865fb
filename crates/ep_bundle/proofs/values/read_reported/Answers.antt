use Rattle.ep_bundle.proofs.Readings.{fails}
use Rattle.ep_bundle.proofs.values.read_reported.Goals as goal

pub returns-in_err-count-clause-bytes : goal.returns-in_err-count-clause-bytes
returns-in_err-count-clause-bytes g c = λ y0 e0. fails _ _ _ _ _ _ _ _ (c.in_err-count.ensures.bytes y0 e0) c.from_residual.ensures.1
