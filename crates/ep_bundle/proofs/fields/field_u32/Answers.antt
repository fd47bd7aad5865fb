use Rattle.ep_bundle.proofs.Readings.{fails}
use Rattle.ep_bundle.proofs.fields.field_u32.Goals as goal

pub returns-in_err-number-clause-bytes : goal.returns-in_err-number-clause-bytes
returns-in_err-number-clause-bytes g c = λ zs h. fails _ _ _ _ _ _ _ _ (c.in_err-number.ensures.bytes zs h) c.from_residual.ensures.1
