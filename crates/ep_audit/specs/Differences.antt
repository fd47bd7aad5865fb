-- The least key that has not the same in two maps.
use Rattle.std.specs.Prelude.{◌≡◌, ◌≢◌, ℕ, Bool, true, false, ◌&&◌, cond, List, [], ◌∷◌, Option, Some, None}
use Rattle.std.specs.Ordering.{is_lt}
use Rattle.ep_base.specs.Attributes.{same_list}
use Rattle.ep_exec.specs.Table.{key_cmp}
use Rattle.ep_rules.specs.OneMap.{Contents, value_at}

-- the maps say the same of all keys below it, and not of it
pub record IsLeastDifference (m n : Contents) (key : List ℕ) : Type 0 where
  pub differs : value_at m key ≢ value_at n key
  pub below : (k : List ℕ) → is_lt (key_cmp k key) ≡ true → value_at m k ≡ value_at n k

-- How it is found among their entries, whose keys rise.

abbrev pub lesser_of : List ℕ → List ℕ → List ℕ
lesser_of k l = cond (is_lt (key_cmp l k)) l k

-- both are there, and the same
abbrev pub is_same_at : Option (List ℕ × List ℕ) → Option (List ℕ × List ℕ) → Bool
is_same_at None other = false
is_same_at (Some e) None = false
is_same_at (Some e) (Some o) = same_list e.0 o.0 && same_list e.1 o.1

abbrev pub lesser_key : Option (List ℕ × List ℕ) → Option (List ℕ × List ℕ) → Option (List ℕ)
lesser_key None None = None
lesser_key (Some e) None = Some e.0
lesser_key None (Some o) = Some o.0
lesser_key (Some e) (Some o) = Some (lesser_of e.0 o.0)

-- the lesser key at the first place where they aren't the same
abbrev pub difference : List (List ℕ × List ℕ) → List (List ℕ × List ℕ) → Option (List ℕ)
difference [] [] = None
difference (e ∷ es) [] = Some e.0
difference [] (o ∷ os) = Some o.0
difference (e ∷ es) (o ∷ os) = cond (same_list e.0 o.0 && same_list e.1 o.1) (difference es os) (Some (lesser_of e.0 o.0))
