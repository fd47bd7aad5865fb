use Rattle.ep_bundle.proofs.Readings.{fails, goes_on, stops}
use Rattle.ep_opening.proofs.stages.read_seal_value.Goals as goal

pub returns-in_err-len : goal.returns-in_err-len
returns-in_err-len g c = λ y0 e0. fails _ _ _ _ _ _ _ _ (c.in_err-len.ensures.bytes y0 e0) c.from_residual.ensures.1

pub returns-in_err-bytes : goal.returns-in_err-bytes
returns-in_err-bytes g c = λ y0 e0. goes_on _ _ _ _ _ _ _ _ (c.in_ok-len.ensures.bytes y0 e0) (λ y1 e1. stops _ _ _ _ _ _ _ (c.in_err-bytes.ensures.bytes y1 e1) c.from_residual-in_err-bytes.ensures.1)
