use Rattle.ep_bundle.proofs.Readings.{fails, goes_on}
use Rattle.ep_bundle.proofs.commands.read_late_lengths.Goals as goal

pub returns-in_err-second-clause-bytes : goal.returns-in_err-second-clause-bytes
returns-in_err-second-clause-bytes g c = λ y0 k e0. fails _ _ _ _ _ _ _ _ (c.in_err-second.ensures.bytes y0 e0) c.from_residual.ensures.1

pub returns-in_err-body-clause-bytes : goal.returns-in_err-body-clause-bytes
returns-in_err-body-clause-bytes g c = λ y0 k e0. goes_on _ _ _ _ _ _ _ _ (c.in_ok-second.ensures.bytes y0 e0) (λ y1 e1. fails _ _ _ _ _ _ _ _ (c.in_err-body.ensures.bytes y1 e1) c.from_residual-in_err-body.ensures.1)
