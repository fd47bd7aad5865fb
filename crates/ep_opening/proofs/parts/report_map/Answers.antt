use Rattle.std.proofs.Common.{None, refl}
use Rattle.ep_base.specs.declared.version_kind.VersionKind.TheVariants.{V3}
use Rattle.ep_bundle.specs.Headers.{map_in}
use Rattle.ep_opening.specs.declared.opening_field.OpeningField.TheVariants.{Map}
use Rattle.ep_opening.proofs.FileReadings.{reported_fault, reported_read}
use Rattle.ep_opening.proofs.parts.report_map.Goals as goal

pub returns-in-Ok : goal.returns-in-Ok
returns-in-Ok g c = λ zs h. reported_read (λ at. Map) (map_in (V3 c.args.generation) (record { at = c.args.place.now; bytes = zs })) _ _ _ (c.in-Ok.ensures zs h)

pub returns-in_ok-at-in-Err : goal.returns-in_ok-at-in-Err
returns-in_ok-at-in-Err g c = λ zs h. reported_fault (λ at. Map) (map_in (V3 c.args.generation) (record { at = c.args.place.now; bytes = zs })) _ _ _ _ 0 _ None c.in_ok-at-in-Err.ensures refl (c.in-Err.ensures zs h)
