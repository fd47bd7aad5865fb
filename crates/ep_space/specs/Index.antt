-- An index by key: for each key the instances whose recorded command has it, in rising order.
use Rattle.std.specs.Prelude.{◌≡◌, ℕ, zero, suc, cond, not, ◌&&◌, List, [], ◌∷◌, ◌++◌, Option, Some, None, Bool, true, false, Vec, ◌==◌, nat_lt, slice_get}
use Rattle.std.specs.Global.{Global}
use Rattle.std.specs.Map.{lookup}
use Rattle.std.specs.Vec.{vec_len, vec_capacity}
use Rattle.ep_base.specs.Attributes.{same_list}
use Rattle.ep_base.specs.Deps.{IsRising}
use Rattle.ep_base.specs.Interference.{has_key}
use Rattle.ep_base.specs.Places.{Has}
use Rattle.ep_rules.specs.declared.record.Record.{Record}
use Rattle.ep_space.specs.Held.{Held}
use Rattle.ep_space.specs.Keys.{holders, marked}
use Rattle.ep_space.specs.declared.index.Index.{Index}

-- a key, with its run
abbrev pub Entry : Type 0
Entry = Vec ℕ Global × Vec ℕ Global

abbrev pub is_at : List ℕ → Vec ℕ Global → Bool
is_at k l = same_list k l.items

abbrev pub listed : Option (Vec ℕ Global) → List ℕ
listed None = []
listed (Some v) = v.items

-- the run of the key k, which is empty where k has no entry
abbrev pub run_in : List Entry → List ℕ → List ℕ
run_in es k = listed (lookup (is_at k) es)

-- the keys behind a mark, with their runs
abbrev pub read_side : Index → ℕ → List Entry
read_side x zero = x.reads.runs.entries
read_side x (suc m) = []

abbrev pub side : Index → ℕ → List Entry
side x zero = x.writes.runs.entries
side x (suc m) = read_side x m

-- the run of a key behind its mark, where seals have the run of the empty one
abbrev pub run : Index → List ℕ → List ℕ
run x [] = x.seals.items
run x (m ∷ k) = run_in (side x m) k

-- here stands the key k, with its run
pub record StandsAt (es : List Entry) (n : ℕ) (k : List ℕ) : Type 0 where
  pub entry : Entry
  pub there : slice_get es n ≡ Some entry
  pub is : is_at k entry.0 ≡ true

-- the list has a free place: one more takes no memory
abbrev pub is_roomy : Vec ℕ Global → Bool
is_roomy v = nat_lt (vec_len v) (vec_capacity v)

-- there is a list, and it has one
abbrev pub found_roomy : Option (Vec ℕ Global) → Bool
found_roomy None = false
found_roomy (Some v) = is_roomy v

-- the key k has a run, with a free place
abbrev pub room_in : List Entry → List ℕ → Bool
room_in es k = found_roomy (lookup (is_at k) es)

-- the same of an index
abbrev pub has_room : Index → List ℕ → Bool
has_room x [] = is_roomy x.seals
has_room x (m ∷ k) = room_in (side x m) k

-- those of the keys that pass
abbrev pub passing : (List ℕ → Bool) → List (List ℕ) → List (List ℕ)
passing test [] = []
passing test (k ∷ ks) = cond (test k) (k ∷ passing test ks) (passing test ks)

abbrev pub entry_keys : List Entry → List (List ℕ)
entry_keys [] = []
entry_keys (e ∷ es) = e.0.items ∷ entry_keys es

-- all keys that have a run, behind their marks
abbrev pub all_keys : Index → List (List ℕ)
all_keys x = [] ∷ marked 0 (entry_keys x.writes.runs.entries) ++ marked 1 (entry_keys x.reads.runs.entries)

-- those whose runs have a free place
abbrev pub roomy_keys : Index → List (List ℕ)
roomy_keys x = passing (has_room x) (all_keys x)

-- each key that a record of the keys `new` brings, where the one before had the keys `own`, has a run with a free place
abbrev pub HasRuns : Index → List (List ℕ) → List (List ℕ) → Type 0
HasRuns x own new = (k : List ℕ) → has_key k new ≡ true → has_key k own ≡ false → has_room x k ≡ true

-- the runs that have a free place still have one
abbrev pub KeepsRoom : Index → Index → Type 0
KeepsRoom x y = (k : List ℕ) → has_room x k ≡ true → has_room y k ≡ true

-- how many are less than i, from the front
abbrev pub count_below : ℕ → List ℕ → ℕ
count_below i [] = 0
count_below i (x ∷ xs) = cond (nat_lt x i) (suc (count_below i xs)) 0

-- the list with i in its place
abbrev pub with_instance : ℕ → List ℕ → List ℕ
with_instance i [] = i ∷ []
with_instance i (x ∷ xs) = cond (nat_lt x i) (x ∷ with_instance i xs) (i ∷ x ∷ xs)

-- the list without i
abbrev pub without : ℕ → List ℕ → List ℕ
without i [] = []
without i (x ∷ xs) = cond (x == i) xs (x ∷ without i xs)

-- among `new` is the key k, and not among `own`
abbrev pub brings : List (List ℕ) → List (List ℕ) → List ℕ → Bool
brings own new k = has_key k new && not (has_key k own)

-- the index of a table
pub record IsKept (t : Held Record) (x : Index) : Type 0 where
  pub runs : (k : List ℕ) → run x k ≡ holders k t.held

-- the runs rise, and i stands in those of the keys `own` alone
pub record StandsUnder (i : ℕ) (own : List (List ℕ)) (x : Index) : Type 0 where
  pub rising : (k : List ℕ) → IsRising (run x k)
  pub alone : (k : List ℕ) → has_key k own ≡ false → ¬ (Has (run x k) i)
