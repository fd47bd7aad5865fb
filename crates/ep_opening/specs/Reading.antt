-- Reading an opening file: whether it is one, its digest, and then its fields, in their order.
use Rattle.std.specs.Prelude.{◌≡◌, ◌≢◌, ℕ, zero, suc, ◌-◌, Bool, cond, eqb, ltb, List, [], ◌∷◌, ◌++◌, length, take, drop, Option, Some, None, Result, Ok, Err}
use Rattle.ep_base.specs.Deps.{most_deps}
use Rattle.ep_base.specs.Attributes.{same_list}
use Rattle.ep_base.specs.Values.{most_value}
use Rattle.ep_base.specs.declared.version_kind.VersionKind.TheVariants.{V3}
use Rattle.ep_rules.specs.OneMap.{Contents}
use Rattle.sha2.specs.Sha256.{sha256}
use Rattle.ep_bundle.specs.Headers.{cluster, map_in}
use Rattle.ep_bundle.specs.Journals.{ended}
use Rattle.ep_bundle.specs.Reading.{Left, Reading, and_then, bad, run, field}
use Rattle.ep_bundle.specs.Stages.{instance}
use Rattle.ep_bundle.specs.declared.bundle_fault.BundleFault.{BundleFault}
use Rattle.ep_bundle.specs.declared.bundle_fault.BundleFault.TheVariants as bundle
use Rattle.ep_bundle.specs.declared.bundle_fault.BundleFault.TheVariants.{BadBundle, NotARun}
use Rattle.ep_bundle.specs.declared.bundle_field.BundleField.TheVariants.{Other}
use Rattle.ep_bundle.specs.declared.wanted.Wanted.TheVariants.{Higher}
use Rattle.ep_opening.specs.Bytes.{magic, opening_bytes}
use Rattle.ep_opening.specs.Files.{File, IsFile}
use Rattle.ep_opening.specs.declared.front.Front.{Front}
use Rattle.ep_opening.specs.declared.opening_fault.OpeningFault.{OpeningFault}
use Rattle.ep_opening.specs.declared.opening_fault.OpeningFault.TheVariants.{Memory, CutShort, Damaged, Wrong}
use Rattle.ep_opening.specs.declared.opening_field.OpeningField.{OpeningField}
use Rattle.ep_opening.specs.declared.opening_field.OpeningField.TheVariants.{Magic, Version, Replicas, Generation, Since, SealMark, SealLength, Seal, Map, Count, Instance, Rest}

-- The fields.

-- what the file is
abbrev pub lead : Left → Reading ℕ
lead l = and_then (field Other 4 magic magic l) (λ x l. field Other 1 3 3 l)

abbrev pub seal_value : Left → Reading (List ℕ)
seal_value l = and_then (field Other 4 0 most_value l) (run Other)

-- the byte that says whether a seal began the generation
abbrev pub mark_of : ℕ → ℕ
mark_of g = cond (eqb g 1) 0 1

abbrev pub some_value : Left → Reading (Option (List ℕ))
some_value l = and_then (seal_value l) (λ v l. Ok (Some v, l))

abbrev pub marked : ℕ → Left → Reading (Option (List ℕ))
marked g l = cond (eqb g 1) (Ok (None, l)) (some_value l)

abbrev pub seal : ℕ → Left → Reading (Option (List ℕ))
seal g l = and_then (field Other 1 (mark_of g) (mark_of g) l) (λ x l. marked g l)

abbrev pub front : Left → Reading Front
front l =
    and_then (cluster l) (λ f l. and_then (field Other 4 1 4294967295 l) (λ g l. and_then (field Other 8 0 281474976710655 l) (λ base_stamp l. and_then (seal g l)
    (λ s l. Ok (record { size = f; generation = g; base_stamp = base_stamp; seal = s }, l)))))

-- the last of these; 0, which no instance is, where there are none
abbrev pub last_of : ℕ → List ℕ → ℕ
last_of i [] = i
last_of i (j ∷ js) = last_of j js

-- an instance above these
abbrev pub above : ℕ → List ℕ → Left → Reading ℕ
above g is l = and_then (instance (V3 g) 7 l) (λ i l'. cond (ltb (last_of 0 is) i) (Ok (i, l')) (Err (bad Other 3 Higher l)))

-- n more of them
abbrev pub rising : ℕ → ℕ → List ℕ → Left → Reading (List ℕ)
rising g zero is l = Ok (is, l)
rising g (suc n) is l = and_then (above g is l) (λ i l. rising g n (is ++ i ∷ []) l)

-- how many there may be
abbrev pub most_of : ℕ → ℕ
most_of g = cond (eqb g 1) 0 most_deps

abbrev pub executed : ℕ → Left → Reading (List ℕ)
executed g l = and_then (field Other 4 0 (most_of g) l) (λ n l. rising g n [] l)

-- Which field begins at a place.

abbrev pub lead_field : ℕ → OpeningField
lead_field at = cond (ltb at 4) Magic Version

abbrev pub front_field : ℕ → OpeningField
front_field at = cond (ltb at 6) Replicas (cond (ltb at 10) Generation (cond (ltb at 18) Since (cond (ltb at 19) SealMark (cond (ltb at 23) SealLength Seal))))

abbrev pub executed_field : ℕ → ℕ → OpeningField
executed_field from at = cond (eqb at from) Count Instance

-- The whole.

-- what was read and what is left then, or why not
abbrev pub FileReading : Type 0 → Type 0
FileReading A = Result (A × Left) OpeningFault

-- where the field at fault begins
abbrev pub place_of : BundleFault → ℕ
place_of (BadBundle field) = field.at
-- no reading of these fields ends so
place_of bundle.Memory = 0
place_of bundle.ReadFailed = 0
place_of (NotARun replica entry) = 0

-- a fault reported by the name of its field
abbrev pub file_reading : {A : Type 0} → (ℕ → OpeningField) → Reading A → FileReading A
file_reading name (Ok p) = Ok p
file_reading name (Err e) = Err (Wrong (place_of e) (name (place_of e)))

abbrev pub and_reported : {A B : Type 0} → FileReading A → (A → Left → FileReading B) → FileReading B
and_reported (Ok p) k = k p.0 p.1
and_reported (Err e) k = Err e

abbrev pub file_of : Front → Contents → List ℕ → File
file_of h m is = record { faults = h.size; generation = h.generation; opening = record { contents = m; base_stamp = h.base_stamp }; seal = h.seal; executed = is }

-- all that stands behind the lead
abbrev pub parts : Left → FileReading File
parts l =
    and_reported (file_reading front_field (front l)) (λ h l. and_reported (file_reading (λ at. Map) (map_in (V3 h.generation) l)) (λ m l. and_reported (file_reading (executed_field l.at) (executed h.generation l))
    (λ is l. and_reported (file_reading (λ at. Rest) (ended l)) (λ x l. Ok (file_of h m is, l)))))

-- the file whose bytes before the digest are these: what it is, then the digest, then all other fields
abbrev pub body_in : List ℕ → List ℕ → FileReading File
body_in bs digest = and_reported (file_reading lead_field (lead (record { at = 0; bytes = bs }))) (λ x l. cond (same_list (sha256 bs) digest) (parts l) (Err (Damaged (length bs))))

-- the shortest file has 59 bytes, of which the last 32 are the digest
abbrev pub file : List ℕ → FileReading File
file bs = cond (ltb (length bs) 59) (Err (CutShort (length bs))) (body_in (take (length bs - 32) bs) (drop (length bs - 32) bs))

-- What calls answer.

-- it is what was to be read, which leaves off at this place with these bytes left, unless memory was refused
abbrev pub ReadsAs : {A : Type 0} → FileReading A → Result A OpeningFault → ℕ → Option (List ℕ) → Type 0
ReadsAs o (Ok a) place left = (bytes : List ℕ) × (left ≡ Some bytes) × (o ≡ Ok (a, record { at = place; bytes = bytes }))
ReadsAs o (Err Memory) place left = Unit {0}
ReadsAs o (Err (CutShort at)) place left = o ≡ Err (CutShort at)
ReadsAs o (Err (Damaged at)) place left = o ≡ Err (Damaged at)
ReadsAs o (Err (Wrong at name)) place left = o ≡ Err (Wrong at name)

-- the same, wherever it leaves off
abbrev pub IsReadAs : {A : Type 0} → FileReading A → Result A OpeningFault → Type 0
IsReadAs o (Ok a) = (l : Left) × (o ≡ Ok (a, l))
IsReadAs o (Err Memory) = Unit {0}
IsReadAs o (Err (CutShort at)) = o ≡ Err (CutShort at)
IsReadAs o (Err (Damaged at)) = o ≡ Err (Damaged at)
IsReadAs o (Err (Wrong at name)) = o ≡ Err (Wrong at name)

-- no file has these bytes
abbrev pub IsNone : List ℕ → Type 0
IsNone bs = (f : File) → IsFile f → bs ≢ opening_bytes f

-- this is the first fault of the bytes, and so no file has them
abbrev pub IsRefused : OpeningFault → List ℕ → Type 0
IsRefused Memory bs = Unit {0}
IsRefused (CutShort at) bs = (file bs ≡ Err (CutShort at)) × IsNone bs
IsRefused (Damaged at) bs = (file bs ≡ Err (Damaged at)) × IsNone bs
IsRefused (Wrong at name) bs = (file bs ≡ Err (Wrong at name)) × IsNone bs

-- the bytes of each file are read as that file, and nothing is left
abbrev pub FilesAreReadBack : Type 0
FilesAreReadBack = (f : File) → IsFile f → (next : ℕ) × (file (opening_bytes f) ≡ Ok (f, record { at = next; bytes = [] }))
