use Rattle.ep_bundle.proofs.Readings.{fails}
use Rattle.ep_opening.proofs.reference_reading.read_lead.Goals as goal

pub returns-in_err-field_u32 : goal.returns-in_err-field_u32
returns-in_err-field_u32 g c = λ y0 e0. fails _ _ _ _ _ _ _ _ (c.in_err-field_u32.ensures.bytes y0 e0) c.from_residual.ensures.1
