use Rattle.ep_bundle.proofs.Readings.{fails, goes_on}
use Rattle.ep_bundle.proofs.parts.read_instance.Goals as goal

pub returns-in_err-replica-clause-bytes : goal.returns-in_err-replica-clause-bytes
returns-in_err-replica-clause-bytes g c = λ y0 e0. fails _ _ _ _ _ _ _ _ (c.in_err-replica.ensures.bytes y0 e0) c.from_residual.ensures.1

pub returns-in_err-number-clause-bytes : goal.returns-in_err-number-clause-bytes
returns-in_err-number-clause-bytes g c = λ y0 e0. goes_on _ _ _ _ _ _ _ _ (c.in_ok-replica.ensures.bytes y0 e0) (λ y1 e1. fails _ _ _ _ _ _ _ _ (c.in_err-number.ensures.bytes y1 e1) c.from_residual-in_err-number.ensures.1)
