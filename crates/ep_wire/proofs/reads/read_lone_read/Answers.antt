use Rattle.ep_bundle.proofs.Readings.{fails, goes_on}
use Rattle.ep_wire.proofs.reads.read_lone_read.Goals as goal

pub returns-in_err-request-clause-bytes : goal.returns-in_err-request-clause-bytes
returns-in_err-request-clause-bytes g c = λ y0 e0. fails _ _ _ _ _ _ _ _ (c.in_err-request.ensures.bytes y0 e0) c.from_residual.ensures.1

pub returns-in_err-read_end-clause-bytes : goal.returns-in_err-read_end-clause-bytes
returns-in_err-read_end-clause-bytes g c = λ y0 e0. goes_on _ _ _ _ _ _ _ _ (c.in_ok-request.ensures.bytes y0 e0) (λ y1 e1. fails _ _ _ _ _ _ _ _ (c.in_err-read_end.ensures.bytes y1 e1) c.from_residual-in_err-read_end.ensures.1)
