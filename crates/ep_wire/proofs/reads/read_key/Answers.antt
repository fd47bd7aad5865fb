use Rattle.ep_bundle.proofs.Readings.{ends, fails, goes_on}
use Rattle.ep_wire.proofs.Keyed.{keyed}
use Rattle.ep_wire.proofs.reads.read_key.Goals as goal

pub returns-in_err-len-clause-bytes : goal.returns-in_err-len-clause-bytes
returns-in_err-len-clause-bytes g c = λ y0 e0. fails _ _ _ _ _ _ _ _ (c.in_err-len.ensures.bytes y0 e0) c.from_residual.ensures.1

pub returns-in_err-bytes-clause-bytes : goal.returns-in_err-bytes-clause-bytes
returns-in_err-bytes-clause-bytes g c = λ y0 e0. goes_on _ _ _ _ _ _ _ _ (c.in_ok-len.ensures.bytes y0 e0) (λ y1 e1. fails _ _ _ _ _ _ _ _ (c.in_err-bytes.ensures.bytes y1 e1) c.from_residual-in_err-bytes.ensures.1)

pub returns-clause-bytes : goal.returns-clause-bytes
returns-clause-bytes g c = λ y0 e0. goes_on _ _ _ _ _ _ _ _ (c.in_ok-len.ensures.bytes y0 e0) (λ y1 e1. goes_on _ _ _ _ _ _ _ _ (c.in_ok-bytes.ensures.bytes y1 e1) (λ y2 e2. keyed _ _ _ _ _ _ (ends _ _ y2 _ e2) c.deref.ensures.value c.key_of.ensures.ok c.key_of.ensures.err))
