-- Opening files, whole.
use Rattle.std.specs.Prelude.{◌≡◌, ◌⊎◌, ◌<◌, ◌≤◌, ℕ, List, [], ◌∷◌, ◌++◌, length}
use Rattle.ep_base.specs.Values.{most_value}
use Rattle.ep_frame.specs.Fields.{number_bytes}
use Rattle.ep_library.specs.Alone.{Copies}
use Rattle.ep_library.specs.Places.{opening_place}
use Rattle.ep_library.specs.Statuses.{done, memory, out_of_range, opening_status}
use Rattle.ep_library.specs.declared.opening_parts.OpeningParts.{OpeningParts}
use Rattle.ep_library.specs.declared.place.Place.{Place}
use Rattle.ep_opening.specs.Bytes.{opening_bytes}
use Rattle.ep_opening.specs.Files.{File}
use Rattle.ep_opening.specs.Reading.{IsRefused}
use Rattle.ep_opening.specs.declared.opening_fault.OpeningFault.{OpeningFault}
use Rattle.sha2.specs.Sha256.{sha256}

-- the bytes are a file's; or they are none's, and where and why is reported; or there was no memory
abbrev pub Checks : ℕ → List ℕ → Place → Place → Type 0
Checks status bytes other place =
    ((f : File) × (bytes ≡ opening_bytes f) × (status ≡ done) × (place ≡ other))
    ⊎ ((fault : OpeningFault) × IsRefused fault bytes × (status ≡ opening_status fault) × (place ≡ opening_place fault))

-- The bytes that parts make.

-- a seal began the generation: its value's length, and it
abbrev pub seal_of : List ℕ → List ℕ
seal_of value = 1 ∷ (number_bytes 4 (length value) ++ value)

-- `EPOP` and the version 3, all fields up to the map, and that no instance was executed
abbrev pub body_of : OpeningParts → List ℕ
body_of p =
    (0x45 ∷ 0x50 ∷ 0x4f ∷ 0x50 ∷ 3 ∷ p.replicas ∷ []) ++ number_bytes 4 p.generation ++ number_bytes 8 p.base_stamp
    ++ seal_of p.seal.now ++ p.map.now ++ number_bytes 4 0

-- with their digest
abbrev pub file_bytes : OpeningParts → List ℕ
file_bytes p = body_of p ++ sha256 (body_of p)

-- What is written: the buffer, how long the file is, and where it is wrong.

abbrev pub Written : Type 0
Written = List ℕ × (ℕ × Place)

-- nothing
abbrev pub IsLeft : ℕ → ℕ → Written → Written → Type 0
IsLeft status why old new = (status ≡ why) × (new ≡ old)

-- the bytes are copied, if there is room; or they are no file's, and where and why is reported; or there was no memory
abbrev pub CopiesFile : ℕ → List ℕ → Written → Written → Type 0
CopiesFile status bytes old new =
    ((f : File) × (bytes ≡ opening_bytes f) × Copies status done bytes old.0 new.0 new.1.0 × (new.1.1 ≡ old.1.1))
    ⊎ ((fault : OpeningFault) × IsRefused fault bytes
    × (status ≡ opening_status fault) × (new.0 ≡ old.0) × (new.1.0 ≡ old.1.0) × (new.1.1 ≡ opening_place fault))

-- the file that the parts make is copied, or they make none; unless memory was refused
abbrev pub Spells : ℕ → OpeningParts → Written → Written → Type 0
Spells status p old new = IsLeft status memory old new ⊎ CopiesFile status (file_bytes p) old new

-- the same of parts whose seal isn't too long
abbrev pub Makes : ℕ → OpeningParts → Written → Written → Type 0
Makes status p old new =
    ((most_value < length p.seal.now) × IsLeft status out_of_range old new)
    ⊎ ((length p.seal.now ≤ most_value) × Spells status p old new)
