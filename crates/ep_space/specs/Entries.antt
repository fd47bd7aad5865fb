-- The entries of a table: places, some of them with a value.
use Rattle.std.specs.Prelude.{◌≡◌, ℕ, zero, suc, ◌+◌, ◌*◌, List, [], ◌∷◌, Option, Some, None, Bool, ◌==◌, ◌++◌, is_some, if◌then◌else◌, cond, slice_get, slice_index_or}
use Rattle.std.specs.FinMap as map
use Rattle.std.specs.FinSet as set
use Rattle.std.specs.Map.{keys_of, lookup, values_of}
use Rattle.std.specs.List.{IsDistinct}
use Rattle.ep_base.specs.Instances.{leader_of, number_of, IsInstance}
use Rattle.ep_space.specs.Held.{Held}

-- the equality of instances as code tests it
abbrev pub same : ℕ → ℕ → Bool
same i j = i == j

-- where the list of spots names i
abbrev pub slot : ℕ → ℕ
slot i = number_of i * 8 + leader_of i

abbrev pub spot_after : ℕ → ℕ
spot_after zero = zero
spot_after (suc n) = suc (suc n)

-- where i stands in a list, counted from 1; 0 where it doesn't
abbrev pub spot : ℕ → List ℕ → ℕ
spot i [] = 0
spot i (k ∷ ks) = cond (same i k) 1 (spot_after (spot i ks))

-- no instance stands twice, and the spots say of each where it stands
pub record AreSpots (ns ks : List ℕ) : Type 0 where
  pub distinct : IsDistinct same ks
  pub reported : (i : ℕ) → IsInstance i → slice_index_or ns (slot i) 0 ≡ spot i ks

module _ {X : Type 0} where
  abbrev pub held_as : ℕ → Option X → List (ℕ × X) → List (ℕ × X)
  held_as i None es = es
  held_as i (Some x) es = (i, x) ∷ es

  -- the entries that have a value
  abbrev pub held_in : List (ℕ × Option X) → List (ℕ × X)
  held_in [] = []
  held_in (e ∷ es) = held_as e.0 e.1 (held_in es)

  abbrev pub held : List (ℕ × Option X) → Held X
  held es = record { held = map.from_entries (held_in es); places = set.from_list (keys_of es) }

  -- no instance stands twice
  abbrev pub IsTable : List (ℕ × Option X) → Type 0
  IsTable es = IsDistinct same (keys_of es)

  abbrev pub flat : Option (Option X) → Option X
  flat None = None
  flat (Some o) = o

  -- the value of the entry at a spot
  abbrev pub value_at : List (ℕ × X) → ℕ → Option X
  value_at es zero = None
  value_at es (suc n) = slice_get (values_of es) n

  -- the entries, with a place for i
  abbrev pub with_place : List (ℕ × Option X) → ℕ → List (ℕ × Option X)
  with_place es i = if is_some (lookup (same i) es) then es else es ++ (i, None) ∷ []
