-- What the items of a line `tx` say of keys, and what they say together: an item for each key, in rising order of keys.
use Rattle.std.specs.Prelude.{◌≡◌, ◌≢◌, ℕ, ◌≤◌, zero, suc, Bool, true, false, List, [], ◌∷◌, length, Option, Some, None, is_some, option_map, option_and_then, if◌then◌else◌, MatchOption, ◌⊎◌}
use Rattle.std.specs.Cmp.Lexicographic.{slice_cmp}
use Rattle.std.specs.Ordering.{nat_cmp, is_eq, is_lt}
use Rattle.std.specs.declared.cmp.Ordering.{Ordering}
use Rattle.std.specs.declared.cmp.Ordering.TheVariants.{Less, Equal, Greater}
use Rattle.ep_base.specs.Attributes.{same_list}
use Rattle.ep_base.specs.Items.{Item, rise_above}
use Rattle.ep_base.specs.CommandParts.{flag}
use Rattle.ep_script.specs.declared.clause.Clause.{Clause}
use Rattle.ep_script.specs.declared.clause.Clause.TheVariants.{Guard, Reported, Write}

-- what is said of a key
pub record Said : Type 0 where
  pub key : List ℕ
  pub clause : Clause

-- the item that says this alone
abbrev pub alone : List ℕ → Clause → Item
alone k (Guard wanted) = record { key = k; guard = Some wanted; reported = false; write = None }
alone k Reported = record { key = k; guard = None; reported = true; write = None }
alone k (Write given) = record { key = k; guard = None; reported = false; write = Some given }

-- the item that says this too; none where it says something of the kind
abbrev pub with_clause : Clause → Item → Option Item
with_clause (Guard wanted) i = if is_some i.guard then None else Some (record { key = i.key; guard = Some wanted; reported = i.reported; write = i.write })
with_clause Reported i = if i.reported then None else Some (record { key = i.key; guard = i.guard; reported = true; write = i.write })
with_clause (Write given) i = if is_some i.write then None else Some (record { key = i.key; guard = i.guard; reported = i.reported; write = Some given })

-- what is said of a key, before the first item whose key is greater, or in the item of the key; rest is where it is put behind the first item
abbrev pub placed : Ordering → Said → Item → List Item → Option (List Item) → Option (List Item)
placed Less s i is rest = option_map (λ js. i ∷ js) rest
placed Equal s i is rest = option_map (λ j. j ∷ is) (with_clause s.clause i)
placed Greater s i is rest = Some (alone s.key s.clause ∷ i ∷ is)

abbrev pub with_said : Said → List Item → Option (List Item)
with_said s [] = Some (alone s.key s.clause ∷ [])
with_said s (i ∷ is) = placed (slice_cmp nat_cmp i.key s.key) s i is (with_said s is)

-- all of it, after these items
abbrev pub merged : List Item → List Said → Option (List Item)
merged is [] = Some is
merged is (s ∷ ss) = option_and_then (λ js. merged js ss) (with_said s is)

-- how many items stand before the first one whose key isn't below this one
abbrev pub below : List ℕ → List Item → ℕ
below k [] = 0
below k (i ∷ is) = if is_lt (slice_cmp nat_cmp i.key k) then suc (below k is) else 0

-- the first item is of this key
abbrev pub begins_with : List ℕ → List Item → Bool
begins_with k [] = false
begins_with k (i ∷ is) = is_eq (slice_cmp nat_cmp i.key k)

-- What items are by what is said, key by key.

-- what is said of the key, in order
abbrev pub said_of : List ℕ → List Said → List Clause
said_of k [] = []
said_of k (s ∷ ss) = if same_list k s.key then s.clause ∷ said_of k ss else said_of k ss

-- what a key has to have by these
abbrev pub guards : List Clause → List (Option (List ℕ))
guards [] = []
guards (Guard wanted ∷ cs) = wanted ∷ guards cs
guards (Reported ∷ cs) = guards cs
guards (Write given ∷ cs) = guards cs

-- how often its value is asked for
abbrev pub number_reported : List Clause → ℕ
number_reported [] = 0
number_reported (Guard wanted ∷ cs) = number_reported cs
number_reported (Reported ∷ cs) = suc (number_reported cs)
number_reported (Write given ∷ cs) = number_reported cs

-- what it is given
abbrev pub writes : List Clause → List (Option (List ℕ))
writes [] = []
writes (Guard wanted ∷ cs) = writes cs
writes (Reported ∷ cs) = writes cs
writes (Write given ∷ cs) = given ∷ writes cs

-- something of one kind is said twice
abbrev pub IsTwice : List Clause → Type 0
IsTwice cs = (2 ≤ length (guards cs)) ⊎ (2 ≤ number_reported cs) ⊎ (2 ≤ length (writes cs))

abbrev pub listed : Option (Option (List ℕ)) → List (Option (List ℕ))
listed None = []
listed (Some o) = o ∷ []

-- the item says something, and just what these do
pub record SaysThese (cs : List Clause) (i : Item) : Type 0 where
  pub some : cs ≢ []
  pub guard : guards cs ≡ listed i.guard
  pub reported : number_reported cs ≡ flag 1 i.reported
  pub write : writes cs ≡ listed i.write

-- the item of the key
abbrev pub item_of : List ℕ → List Item → Option Item
item_of k [] = None
item_of k (i ∷ is) = if same_list k i.key then Some i else item_of k is

-- each key stands once, and they rise
abbrev pub rise : List Item → Bool
rise [] = true
rise (i ∷ is) = rise_above i.key is

-- a key has an item where something is said of it, and the item says that and nothing else
pub record AreSaid (ss : List Said) (is : List Item) : Type 0 where
  pub rise : rise is ≡ true
  pub each : (k : List ℕ) → MatchOption (item_of k is) (said_of k ss ≡ []) (SaysThese (said_of k ss))

-- all that is said makes such items, but where something of one kind is said twice of a key
abbrev pub MergingLaw : Type 0
MergingLaw = (ss : List Said) → MatchOption (merged [] ss) ((k : List ℕ) × IsTwice (said_of k ss)) (AreSaid ss)
