use Rattle.ep_opening.proofs.FileReadings.{fails_reported, goes_on_reported}
use Rattle.ep_opening.proofs.reference_reading.read_parts.Goals as goal

pub returns-in_err-reference : goal.returns-in_err-reference
returns-in_err-reference g c = λ y0 e0. fails_reported _ _ _ _ _ _ _ _ (c.in_err-reference.ensures y0 e0) c.from_residual.ensures.1

pub returns-in_err-report_end : goal.returns-in_err-report_end
returns-in_err-report_end g c = λ y0 e0. goes_on_reported _ _ _ _ _ _ _ _ (c.in_ok-reference.ensures y0 e0) (λ y1 e1. fails_reported _ _ _ _ _ _ _ _ (c.in_err-report_end.ensures y1 e1) c.from_residual-in_err-report_end.ensures.1)
