use Rattle.ep_bundle.proofs.Readings.{fails, goes_on}
use Rattle.ep_bundle.proofs.commands.read_lengths.Goals as goal

pub returns-in_err-op-clause-bytes : goal.returns-in_err-op-clause-bytes
returns-in_err-op-clause-bytes g c = λ y0 e0. fails _ _ _ _ _ _ _ _ (c.in_err-op.ensures.bytes y0 e0) c.from_residual.ensures.1

pub returns-in_err-first-clause-bytes : goal.returns-in_err-first-clause-bytes
returns-in_err-first-clause-bytes g c = λ y0 e0. goes_on _ _ _ _ _ _ _ _ (c.in_ok-op.ensures.bytes y0 e0) (λ y1 e1. fails _ _ _ _ _ _ _ _ (c.in_err-first.ensures.bytes y1 e1) c.from_residual-in_err-first.ensures.1)
