use Rattle.std.proofs.Common.{None}
use Rattle.ep_opening.specs.Reading.{front, front_field}
use Rattle.ep_opening.proofs.FileReadings.{reported_fault, reported_read}
use Rattle.ep_opening.proofs.parts.report_front.Goals as goal

pub returns-in-Ok : goal.returns-in-Ok
returns-in-Ok g c = λ zs h. reported_read front_field (front (record { at = c.args.place.now; bytes = zs })) _ _ _ (c.in-Ok.ensures zs h)

pub returns-in_ok-at-in-Err : goal.returns-in_ok-at-in-Err
returns-in_ok-at-in-Err g c = λ zs h. reported_fault front_field (front (record { at = c.args.place.now; bytes = zs })) _ _ _ _ 0 _ None c.in_ok-at-in-Err.ensures c.front_field.ensures (c.in-Err.ensures zs h)
