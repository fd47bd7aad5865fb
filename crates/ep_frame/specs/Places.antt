-- Which field of a frame has the byte at a place.
use Rattle.std.specs.Prelude.{ℕ, ◌≡◌, ◌≤◌, ◌<◌, ◌+◌, ◌-◌, ◌%◌, ◌==◌, nat_lt, if◌then◌else◌, List, [], ◌∷◌, ◌++◌, replicate, sum_by}
use Rattle.ep_frame.specs.declared.header.Header.{Header}
use Rattle.ep_frame.specs.declared.field_name.FieldName.{FieldName}
use Rattle.ep_frame.specs.declared.field_name.FieldName.TheVariants.{Magic, Version, Kind, Sender, Receiver, OutNumber, EntryNumber, Stamp, InstanceReplica, InstanceNumber, BallotCounter, BallotReplica, Status, OtherCounter, OtherReplica, Seq, Op, KeyLength, TextLength, SecondKeyLength, DependencyCount, Generation, BodyLength, Key, Text, SecondKey, Body, Dependency}
use Rattle.ep_frame.specs.declared.frame_field.FrameField.{FrameField}
use Rattle.ep_frame.specs.Fields.{header_at, start_fields, origin_fields, ballot_fields, vote_fields, body_fields, late_fields, text_len}

-- fields in their order, each with its width in bytes
abbrev pub NamedFields : Type 0
NamedFields = List (FieldName × ℕ)

-- these names, each with the width that its field has
abbrev pub named : List FieldName → List (ℕ × ℕ) → NamedFields
named [] fs = []
named (n ∷ ns) [] = []
named (n ∷ ns) (f ∷ fs) = (n, f.0) ∷ named ns fs

-- the field at 36
abbrev pub name_at_36 : Header → FieldName
name_at_36 h = if h.version == 3 then SecondKeyLength else TextLength

-- the header's fields, as `header_bytes` writes them
abbrev pub header_fields : Header → NamedFields
header_fields h =
    named (Magic ∷ Version ∷ Kind ∷ Sender ∷ []) (start_fields h)
    ++ named (Receiver ∷ OutNumber ∷ EntryNumber ∷ Stamp ∷ []) (origin_fields h)
    ++ named (InstanceReplica ∷ InstanceNumber ∷ BallotCounter ∷ BallotReplica ∷ []) (ballot_fields h)
    ++ named (Status ∷ OtherCounter ∷ OtherReplica ∷ []) (vote_fields h)
    ++ named (Seq ∷ Op ∷ KeyLength ∷ name_at_36 h ∷ DependencyCount ∷ []) (body_fields h)
    ++ named (Generation ∷ BodyLength ∷ []) (late_fields h)

-- those behind the header, up to the dependencies
abbrev pub later_fields : Header → NamedFields
later_fields h =
    if h.version == 3 then (Key, h.key_len) ∷ (SecondKey, h.second_len) ∷ (Body, h.body_len) ∷ []
    else (Key, h.key_len) ∷ (Text, text_len h) ∷ []

-- those of the version and with the lengths that these bytes say; a byte that isn't there is 0
abbrev pub fields_in : List ℕ → NamedFields
fields_in b = header_fields (header_at b) ++ later_fields (header_at b)

abbrev pub width : FieldName × ℕ → ℕ
width f = f.1

-- Of fields that follow one another from `first` on, and as many dependencies as need be, f has the byte at the place:
-- it stands among them, and begins where those before it end.
pub record IsFieldFrom (first : ℕ) (fields : NamedFields) (place : ℕ) (f : FrameField) : Type 0 where
  pub low : f.start ≤ place
  pub high : place < f.start + f.len
  pub dependencies : ℕ
  pub before : NamedFields
  pub after : NamedFields
  pub stands : fields ++ replicate dependencies (Dependency, 3) ≡ before ++ (f.name, f.len) ∷ after
  pub begins : f.start ≡ first + sum_by width before

-- the field of a frame that has the byte at the place
abbrev pub IsFieldAt : List ℕ → ℕ → FrameField → Type 0
IsFieldAt b place f = IsFieldFrom 0 (fields_in b) place f

-- the first of these fields that ends behind the place; where none does, the dependency there
abbrev pub field_from : ℕ → NamedFields → ℕ → FrameField
field_from first [] place = record { name = Dependency; start = place - (place - first) % 3; len = 3 }
field_from first (f ∷ fs) place =
    if nat_lt place (first + f.1) then record { name = f.0; start = first; len = f.1 }
    else field_from (first + f.1) fs place
