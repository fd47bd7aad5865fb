-- What an inbox holds, and what each of its ports knows.
use Rattle.std.specs.Prelude.{◌≡◌, ℕ, ◌≤◌, eqb, cond, List, [], ◌∷◌, ◌++◌, length}
use mathlib.Core.Option.{some}
use lib.ListN.{get_elem?}
use Rattle.ep_host.specs.declared.hand.Hand.{Hand}

module _ {T : Type 0} where
  abbrev pub hand : List T → List T → Hand T
  hand put taken = record { put = put; taken = taken }

  -- the items alone, of items that each have the number of their port
  abbrev pub items_of : List (ℕ × T) → List T
  items_of [] = []
  items_of (e ∷ es) = e.1 ∷ items_of es

  -- the items of the port with this number, in order
  abbrev pub of_port : ℕ → List (ℕ × T) → List T
  of_port p [] = []
  of_port p (e ∷ es) = cond (eqb e.0 p) (e.1 ∷ of_port p es) (of_port p es)

  -- the port knows just what it has put, and what it has taken, of all that was
  abbrev pub Knows : List (ℕ × T) → List (ℕ × T) → ℕ → Hand T → Type 0
  Knows put taken p v = (v.put ≡ of_port p put) × (v.taken ≡ of_port p taken)

  -- the rule: what was put is what was taken, and then what the inbox holds, in one order. Each port knows its own part, and one that isn't made yet has none
  abbrev pub InOrder : List T → List (Hand T) → Type 0
  InOrder items ports =
      (put : List (ℕ × T)) × (taken : List (ℕ × T)) × (items_of put ≡ items_of taken ++ items)
      × ((p : ℕ) (v : Hand T) → get_elem? ports p ≡ some v → Knows put taken p v)
      × ((p : ℕ) → length ports ≤ p → (of_port p put ≡ []) × (of_port p taken ≡ []))
