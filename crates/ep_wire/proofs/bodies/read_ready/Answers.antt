use Rattle.ep_bundle.proofs.Readings.{fails, goes_on}
use Rattle.ep_wire.proofs.bodies.read_ready.Goals as goal

pub returns-in_err-after-clause-bytes : goal.returns-in_err-after-clause-bytes
returns-in_err-after-clause-bytes g c = λ y0 e0. fails _ _ _ _ _ _ _ _ (c.in_err-after.ensures.bytes y0 e0) c.from_residual.ensures.1

pub returns-in_err-most-clause-bytes : goal.returns-in_err-most-clause-bytes
returns-in_err-most-clause-bytes g c = λ y0 e0. goes_on _ _ _ _ _ _ _ _ (c.in_ok-after.ensures.bytes y0 e0) (λ y1 e1. fails _ _ _ _ _ _ _ _ (c.in_err-most.ensures.bytes y1 e1) c.from_residual-in_err-most.ensures.1)
