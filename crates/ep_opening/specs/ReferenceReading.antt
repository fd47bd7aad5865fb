-- Reading a reference: whether it is one, its digest, and then its fields, in their order.
use Rattle.std.specs.Prelude.{◌≡◌, ◌≢◌, ℕ, ◌-◌, cond, ltb, List, [], length, take, drop, Ok, Err}
use Rattle.ep_base.specs.Attributes.{same_list}
use Rattle.ep_bundle.specs.Headers.{cluster}
use Rattle.ep_bundle.specs.Journals.{ended}
use Rattle.ep_bundle.specs.Reading.{Left, Reading, and_then, run, field}
use Rattle.ep_bundle.specs.declared.bundle_field.BundleField.TheVariants.{Other}
use Rattle.sha2.specs.Sha256.{sha256}
use Rattle.ep_opening.specs.Reading.{FileReading, and_reported, lead_field, file_reading}
use Rattle.ep_opening.specs.References.{IsReference, Reference, least_log, magic, reference_bytes}
use Rattle.ep_opening.specs.declared.opening_fault.OpeningFault.{OpeningFault}
use Rattle.ep_opening.specs.declared.opening_fault.OpeningFault.TheVariants.{Memory, CutShort, Damaged, Wrong}
use Rattle.ep_opening.specs.declared.opening_field.OpeningField.{OpeningField}
use Rattle.ep_opening.specs.declared.opening_field.OpeningField.TheVariants.{Replicas, Generation, Log, Rest}

abbrev pub lead : Left → Reading ℕ
lead l = and_then (field Other 4 magic magic l) (λ x l. field Other 1 3 3 l)

abbrev pub name : Left → Reading Reference
name l =
    and_then (cluster l) (λ f l. and_then (field Other 4 2 4294967295 l) (λ g l. and_then (field Other 8 least_log 18446744073709551615 l) (λ n l. and_then (run Other 32 l)
    (λ s l. Ok (record { faults = f; generation = g; length = n; sum = s }, l)))))

-- which field begins at a place
abbrev pub name_field : ℕ → OpeningField
name_field at = cond (ltb at 6) Replicas (cond (ltb at 10) Generation Log)

-- all that stands behind the lead
abbrev pub parts : Left → FileReading Reference
parts l = and_reported (file_reading name_field (name l)) (λ r l. and_reported (file_reading (λ at. Rest) (ended l)) (λ x l. Ok (r, l)))

-- the reference whose bytes before the digest are these
abbrev pub body_in : List ℕ → List ℕ → FileReading Reference
body_in bs digest = and_reported (file_reading lead_field (lead (record { at = 0; bytes = bs }))) (λ x l. cond (same_list (sha256 bs) digest) (parts l) (Err (Damaged (length bs))))

-- each has 82 bytes, of which the last 32 are the digest
abbrev pub reference : List ℕ → FileReading Reference
reference bs = cond (ltb (length bs) 82) (Err (CutShort (length bs))) (body_in (take (length bs - 32) bs) (drop (length bs - 32) bs))

-- no reference has these bytes
abbrev pub IsNone : List ℕ → Type 0
IsNone bs = (r : Reference) → IsReference r → bs ≢ reference_bytes r

-- this is the first fault of the bytes, and so no reference has them
abbrev pub IsRefused : OpeningFault → List ℕ → Type 0
IsRefused Memory bs = Unit {0}
IsRefused (CutShort at) bs = (reference bs ≡ Err (CutShort at)) × IsNone bs
IsRefused (Damaged at) bs = (reference bs ≡ Err (Damaged at)) × IsNone bs
IsRefused (Wrong at name) bs = (reference bs ≡ Err (Wrong at name)) × IsNone bs

-- the bytes of each reference are read as that one, and nothing is left
abbrev pub ReferencesAreReadBack : Type 0
ReferencesAreReadBack = (r : Reference) → IsReference r → (next : ℕ) × (reference (reference_bytes r) ≡ Ok (r, record { at = next; bytes = [] }))
