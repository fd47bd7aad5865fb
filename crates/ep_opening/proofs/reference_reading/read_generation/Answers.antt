use Rattle.ep_bundle.proofs.Readings.{stops}
use Rattle.ep_opening.proofs.reference_reading.read_generation.Goals as goal

pub returns-in_err-number : goal.returns-in_err-number
returns-in_err-number g c = λ y0 e0. stops _ _ _ _ _ _ _ (c.in_err-number.ensures.bytes y0 e0) c.from_residual.ensures.1
