use Rattle.ep_bundle.proofs.Readings.{fails, goes_on}
use Rattle.ep_bundle.proofs.headers.read_late_edition.Goals as goal

pub returns-in_err-generation-clause-bytes : goal.returns-in_err-generation-clause-bytes
returns-in_err-generation-clause-bytes g c = λ y0 e0. fails _ _ _ _ _ _ _ _ (c.in_err-generation.ensures.bytes y0 e0) c.from_residual.ensures.1

pub returns-in_err-base_stamp-clause-bytes : goal.returns-in_err-base_stamp-clause-bytes
returns-in_err-base_stamp-clause-bytes g c = λ y0 e0. goes_on _ _ _ _ _ _ _ _ (c.in_ok-generation.ensures.bytes y0 e0) (λ y1 e1. fails _ _ _ _ _ _ _ _ (c.in_err-base_stamp.ensures.bytes y1 e1) c.from_residual-in_err-base_stamp.ensures.1)
