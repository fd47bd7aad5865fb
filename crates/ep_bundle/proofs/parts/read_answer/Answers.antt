use Rattle.ep_bundle.proofs.Readings.{fails}
use Rattle.ep_bundle.proofs.parts.read_answer.Goals as goal

pub returns-in_err-code-clause-bytes : goal.returns-in_err-code-clause-bytes
returns-in_err-code-clause-bytes g c = λ y0 e0. fails _ _ _ _ _ _ _ _ (c.in_err-code.ensures.bytes y0 e0) c.from_residual.ensures.1
