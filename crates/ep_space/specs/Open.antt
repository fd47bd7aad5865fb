-- What a replica knows of and hasn't committed, and the least of it.
use Rattle.std.specs.Prelude.{◌≡◌, ◌⊎◌, ◌&&◌, ℕ, ◌<◌, Bool, true, cond, ltb, is_none, List, [], ◌∷◌, Option, Some, None}
use Rattle.ep_base.specs.Places.{Has}
use Rattle.ep_base.specs.declared.vote.Vote.{Vote}
use Rattle.ep_rules.specs.Maps.{Map, get}
use Rattle.ep_rules.specs.States.{committed_in}
use Rattle.ep_rules.specs.Worlds.{In}
use Rattle.ep_rules.specs.declared.record.Record.{Record}

-- the dependencies of what is voted for
abbrev pub deps_of : Option Vote → List ℕ
deps_of None = []
deps_of (Some v) = v.decree.attrs.deps

-- the record of j names i: it is its own, or what it votes for depends on i
abbrev pub ReportsOf : ℕ → Record → ℕ → Type 0
ReportsOf j r i = (j ≡ i) ⊎ Has (deps_of r.vote) i

-- i has a record, or is a dependency of what a record votes for
abbrev pub IsKnown : Map Record → ℕ → Type 0
IsKnown m i = (j : ℕ) × (r : Record) × (get m j ≡ Some r) × ReportsOf j r i

-- it is known, and not committed
abbrev pub IsOpen : Map Record → ℕ → Type 0
IsOpen m i = IsKnown m i × (committed_in m i ≡ None)

abbrev pub IsAbove : Option ℕ → ℕ → Type 0
IsAbove None i = Unit {0}
IsAbove (Some j) i = j < i

-- the least open instance above this one, or none
abbrev pub IsNextOpen : Map Record → Option ℕ → Option ℕ → Type 0
IsNextOpen m after None = (j : ℕ) → IsOpen m j → ¬ IsAbove after j
IsNextOpen m after (Some i) = IsOpen m i × IsAbove after i × ((j : ℕ) → IsOpen m j → IsAbove after j → ¬ (j < i))

-- The search for it.

abbrev pub is_above : Option ℕ → ℕ → Bool
is_above None i = true
is_above (Some j) i = ltb j i

-- it is above, and not committed
abbrev pub is_left : Map Record → Option ℕ → ℕ → Bool
is_left m after i = is_above after i && is_none (committed_in m i)

-- the first of a list that is
abbrev pub first_left : Map Record → Option ℕ → List ℕ → Option ℕ
first_left m after [] = None
first_left m after (i ∷ is) = cond (is_left m after i) (Some i) (first_left m after is)

-- the lesser of two, where there are two
abbrev pub lesser : Option ℕ → Option ℕ → Option ℕ
lesser None other = other
lesser (Some i) None = Some i
lesser (Some i) (Some j) = cond (ltb j i) (Some j) (Some i)

-- the least that passes
abbrev pub IsLeast : (ℕ → Type 0) → Option ℕ → Type 0
IsLeast P None = (j : ℕ) → ¬ P j
IsLeast P (Some i) = P i × ((j : ℕ) → P j → ¬ (j < i))

-- an entry's record names i
abbrev pub EntryReports : ℕ → Option Record → ℕ → Type 0
EntryReports j None i = ⊥
EntryReports j (Some r) i = ReportsOf j r i

-- a record among the entries of a table names i
abbrev pub AreReporting : List (ℕ × Option Record) → ℕ → Type 0
AreReporting [] i = ⊥
AreReporting (e ∷ es) i = EntryReports e.0 e.1 i ⊎ AreReporting es i

-- the least that an entry's record names and that is left
abbrev pub IsLeastOf : Map Record → Option ℕ → ℕ → Option Record → Option ℕ → Type 0
IsLeastOf m after j written found = IsLeast (λ i. EntryReports j written i × (is_left m after i ≡ true)) found

-- the same of these entries
abbrev pub IsLeastIn : Map Record → Option ℕ → List (ℕ × Option Record) → Option ℕ → Type 0
IsLeastIn m after es found = IsLeast (λ i. AreReporting es i × (is_left m after i ≡ true)) found

-- the entries have each record, and no other
abbrev pub AreRecords : Map Record → List (ℕ × Option Record) → Type 0
AreRecords m es = (i : ℕ) (r : Record) → ((get m i ≡ Some r) → In (i, Some r) es) × (In (i, Some r) es → get m i ≡ Some r)
