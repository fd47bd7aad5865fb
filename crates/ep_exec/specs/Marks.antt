-- Marks of instances, each where its number and its leader say.
use Rattle.std.specs.Prelude.{◌≡◌, ◌↔◌, ℕ, List, Bool, true, false, slice_index_or}
use Rattle.ep_base.specs.Instances.{IsInstance}
use Rattle.ep_base.specs.Places.{Has}
use Rattle.ep_space.specs.Entries.{slot}

-- the instances of the list are marked, and no others
abbrev pub AreMarks : List ℕ → List Bool → Type 0
AreMarks is ms = (i : ℕ) → IsInstance i → Has is i ↔ (slice_index_or ms (slot i) false ≡ true)
