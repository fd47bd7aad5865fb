-- Tables of what is committed.
use Rattle.std.specs.Prelude.{◌≡◌, ◌↔◌, ℕ, ◌<◌, List, [], ◌∷◌, ◌++◌, Option, Some, None}
use Rattle.ep_base.specs.Deps.{IsRising}
use Rattle.ep_base.specs.declared.decree.Decree.{Decree}
use Rattle.ep_rules.specs.Verdicts.{agreed, instances_of}
use Rattle.ep_rules.specs.Worlds.{In}
use Rattle.ep_journal.specs.Entries.{Collected, journals_of}
use Rattle.ep_journal.specs.Openings.{opens}

-- what the journals commit in an instance
abbrev pub agreed_in : Collected → ℕ → Option Decree
agreed_in c = agreed (opens c.opening) c.faults (journals_of c)

-- the table, with what is agreed on in i, if something is
abbrev pub and_row : List (ℕ × Decree) → ℕ → Option Decree → List (ℕ × Decree)
and_row table i None = table
and_row table i (Some x) = table ++ ((i, x) ∷ [])

-- in rising order, what is agreed on in the instances below the bound
pub record Covers (agreed : ℕ → Option Decree) (bound : ℕ) (table : List (ℕ × Decree)) : Type 0 where
  pub rises : IsRising (instances_of table)
  pub below : (i : ℕ) (x : Decree) → In (i, x) table ↔ ((i < bound) × (agreed i ≡ Some x))
