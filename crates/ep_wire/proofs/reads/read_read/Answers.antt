use Rattle.ep_bundle.proofs.Readings.{fails, goes_on}
use Rattle.ep_wire.proofs.reads.read_read.Goals as goal

pub returns-in_err-key-clause-bytes : goal.returns-in_err-key-clause-bytes
returns-in_err-key-clause-bytes g c = λ y0 e0. fails _ _ _ _ _ _ _ _ (c.in_err-key.ensures.bytes y0 e0) c.from_residual.ensures.1

pub returns-in_err-found-clause-bytes : goal.returns-in_err-found-clause-bytes
returns-in_err-found-clause-bytes g c = λ y0 e0. goes_on _ _ _ _ _ _ _ _ (c.in_ok-key.ensures.bytes y0 e0) (λ y1 e1. fails _ _ _ _ _ _ _ _ (c.in_err-found.ensures.bytes y1 e1) c.from_residual-in_err-found.ensures.1)
