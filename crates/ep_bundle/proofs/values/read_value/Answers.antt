use Rattle.ep_bundle.proofs.Readings.{fails, goes_on, stops}
use Rattle.ep_bundle.proofs.values.read_value.Goals as goal

pub returns-in_err-len-clause-bytes : goal.returns-in_err-len-clause-bytes
returns-in_err-len-clause-bytes g c = λ y0 e0. fails _ _ _ _ _ _ _ _ (c.in_err-len.ensures.bytes y0 e0) c.from_residual.ensures.1

pub returns-in_err-read_over-clause-bytes : goal.returns-in_err-read_over-clause-bytes
returns-in_err-read_over-clause-bytes g c = λ y0 e0. goes_on _ _ _ _ _ _ _ _ (c.in_ok-len.ensures.bytes y0 e0) (λ y1 e1. stops _ _ _ _ _ _ _ (c.in_err-read_over.ensures.bytes y1 e1) c.from_residual-in_err-read_over.ensures.1)
