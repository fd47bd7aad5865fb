use Rattle.ep_bundle.proofs.Readings.{fails, goes_on}
use Rattle.ep_wire.proofs.reading.read_sized.Goals as goal

pub returns-in_err-kind-clause-bytes : goal.returns-in_err-kind-clause-bytes
returns-in_err-kind-clause-bytes g c = λ y0 e0. fails _ _ _ _ _ _ _ _ (c.in_err-kind.ensures.bytes y0 e0) c.from_residual.ensures.1

pub returns-in_err-body-clause-bytes : goal.returns-in_err-body-clause-bytes
returns-in_err-body-clause-bytes g c = λ y0 e0. goes_on _ _ _ _ _ _ _ _ (c.in_ok-kind.ensures.bytes y0 e0) (λ y1 e1. fails _ _ _ _ _ _ _ _ (c.in_err-body.ensures.bytes y1 e1) c.from_residual-in_err-body.ensures.1)
