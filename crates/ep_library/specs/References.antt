-- What references say, as C has it.
use Rattle.std.specs.Prelude.{◌≡◌, ◌⊎◌, ℕ, List}
use Rattle.ep_base.specs.Quorums.{size}
use Rattle.ep_library.specs.Places.{opening_place}
use Rattle.ep_library.specs.Statuses.{done, opening_status}
use Rattle.ep_library.specs.declared.place.Place.{Place}
use Rattle.ep_library.specs.declared.reference_head.ReferenceHead.{ReferenceHead}
use Rattle.ep_opening.specs.ReferenceReading.{IsRefused}
use Rattle.ep_opening.specs.References.{Reference, reference_bytes}
use Rattle.ep_opening.specs.declared.opening_fault.OpeningFault.{OpeningFault}

abbrev pub read_of : Reference → ReferenceHead
read_of r = record { length = r.length; generation = r.generation; replicas = size r.faults }

-- what it says is reported; or it is none, where and why is reported; or there was no memory
abbrev pub ReportsReference : ℕ → List ℕ → ReferenceHead → Place → ReferenceHead → Place → Type 0
ReportsReference status bytes old other reported place =
    ((r : Reference) × (bytes ≡ reference_bytes r) × (status ≡ done) × (reported ≡ read_of r) × (place ≡ other))
    ⊎ ((fault : OpeningFault) × IsRefused fault bytes
    × (status ≡ opening_status fault) × (reported ≡ old) × (place ≡ opening_place fault))
