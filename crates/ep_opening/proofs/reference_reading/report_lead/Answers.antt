use Rattle.std.proofs.Common.{None}
use Rattle.ep_opening.specs.Reading.{lead_field}
use Rattle.ep_opening.specs.ReferenceReading.{lead}
use Rattle.ep_opening.proofs.FileReadings.{reported_fault, reported_read}
use Rattle.ep_opening.proofs.reference_reading.report_lead.Goals as goal

pub returns-in-Ok : goal.returns-in-Ok
returns-in-Ok g c = λ zs h. reported_read lead_field (lead (record { at = c.args.place.now; bytes = zs })) _ _ _ (c.in-Ok.ensures zs h)

pub returns-in_ok-at-in-Err : goal.returns-in_ok-at-in-Err
returns-in_ok-at-in-Err g c = λ zs h. reported_fault lead_field (lead (record { at = c.args.place.now; bytes = zs })) _ _ _ _ 0 _ None c.in_ok-at-in-Err.ensures c.lead_field.ensures (c.in-Err.ensures zs h)
