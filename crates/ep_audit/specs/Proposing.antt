-- Where instances are proposed.
use Rattle.std.specs.Prelude.{◌≡◌, ℕ, suc, ◌+◌, ◌<◌, ◌≤◌, cond, List, [], ◌∷◌, length, drop, Option, slice_index_or as get_or}
use Rattle.ep_base.specs.Instances.{instance_of, highest_number}
use Rattle.ep_journal.specs.Entries.{Collected, entries_at}
use Rattle.ep_journal.specs.declared.entry.Entry.{Entry}
use Rattle.ep_audit.specs.Lookups.{proposed, is_this}

-- the place of the first entry that proposes instance i, or how many entries there are
abbrev pub place_in : List Entry → ℕ → ℕ
place_in [] i = 0
place_in (e ∷ es) i = cond (is_this i (proposed e.event e.frames)) 0 (suc (place_in es i))

-- the row has the place of each instance of r among the entries from k on
pub record IsRowFrom (r k : ℕ) (es : List Entry) (row : List ℕ) : Type 0 where
  pub places : (n : ℕ) → n ≤ highest_number → get_or row n (length es) ≡ k + place_in (drop k es) (instance_of r n)

-- the row has, for each number, the place of the entry that proposes this instance of r
pub record IsRow (r : ℕ) (es : List Entry) (row : List ℕ) : Type 0 where
  pub places : (n : ℕ) → n ≤ highest_number → get_or row n (length es) ≡ place_in es (instance_of r n)

-- a row of each replica below n
pub record AreRows (c : Collected) (n : ℕ) (rows : List (List ℕ)) : Type 0 where
  pub many : length rows ≡ n
  pub row : (q : ℕ) → q < n → IsRow q (entries_at c q) (get_or rows q [])

-- the row, where instance i of r, if it is one, is proposed at place k
abbrev pub IsMarked : ℕ → Option ℕ → ℕ → ℕ → List ℕ → List ℕ → Type 0
IsMarked r o k none old new = (n : ℕ) → n ≤ highest_number → get_or new n none ≡ cond (is_this (instance_of r n) o) k (get_or old n none)
