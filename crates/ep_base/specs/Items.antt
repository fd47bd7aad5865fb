-- What a command over many keys says of each of them.
use Rattle.std.specs.Prelude.{ℕ, suc, List, [], ◌∷◌, Option, Bool, true, is_none, ◌&&◌, if◌then◌else◌}
use Rattle.std.specs.Ordering.{nat_cmp, is_lt}
use Rattle.std.specs.Cmp.Lexicographic.{slice_cmp}

-- What one says of a key.
pub record Item : Type 0 where
  pub key : List ℕ
  -- the guard: what the key must have, be it a value or none, if the item asks for that
  pub guard : Option (Option (List ℕ))
  -- the reply says what the key has
  pub reported : Bool
  -- what the key is given, be it a value or none, if the item writes
  pub write : Option (Option (List ℕ))

abbrev pub item_keys : List Item → List (List ℕ)
item_keys [] = []
item_keys (i ∷ is) = i.key ∷ item_keys is

-- no item writes
abbrev pub none_writes : List Item → Bool
none_writes [] = true
none_writes (i ∷ is) = is_none i.write && none_writes is

-- how many items are reported
abbrev pub reported_count : List Item → ℕ
reported_count [] = 0
reported_count (i ∷ is) = if i.reported then suc (reported_count is) else reported_count is

-- the keys rise, as unsigned bytes, from one above k on
abbrev pub rise_above : List ℕ → List Item → Bool
rise_above k [] = true
rise_above k (i ∷ is) = is_lt (slice_cmp nat_cmp k i.key) && rise_above i.key is
