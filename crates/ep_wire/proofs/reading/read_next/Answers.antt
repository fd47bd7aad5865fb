use Rattle.ep_bundle.proofs.Readings.{fails}
use Rattle.ep_wire.proofs.Lengths.{next_ends, next_fails, next_goes_on}
use Rattle.ep_wire.proofs.reading.read_next.Goals as goal

pub returns-in_err-next-clause-bytes : goal.returns-in_err-next-clause-bytes
returns-in_err-next-clause-bytes g c = λ y0 e0. next_fails _ _ _ _ _ _ _ _ _ (c.in_err-next.ensures.bytes y0 e0) c.from_residual.ensures.1

pub returns-in_err-request-clause-bytes : goal.returns-in_err-request-clause-bytes
returns-in_err-request-clause-bytes g c = λ y0 e0. next_goes_on _ _ _ _ _ _ _ _ _ (rw c.in-Some.is at (c.in_ok-next.ensures.bytes y0 e0)) (λ y1 e1. fails _ _ _ _ _ _ _ _ (c.in_err-request.ensures.bytes y1 e1) c.from_residual-in_err-request.ensures.1)

pub returns-clause-bytes : goal.returns-clause-bytes
returns-clause-bytes g c = λ y0 e0. next_ends _ _ _ _ _ _ _ _ _ (rw c.in-Some.is at (c.in_ok-next.ensures.bytes y0 e0)) (λ y1 e1. c.in_ok-request.ensures.bytes y1 e1)
