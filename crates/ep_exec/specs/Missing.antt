-- The search for an instance that isn't committed.
use Rattle.std.specs.Prelude.{◌≡◌, ℕ, ◌⊎◌, List, [], ◌∷◌, ◌++◌, Option, Some, None, Bool, is_none, ◌&&◌, if◌then◌else◌}
use Rattle.ep_base.specs.Places.{Has}
use Rattle.ep_rules.specs.Graph.{Graph, Reaches}
use Rattle.ep_rules.specs.Order.{IsComplete}
use Rattle.ep_exec.specs.Cut.{cut}
use Rattle.ep_exec.specs.Ready.{is_out}
use Rattle.ep_exec.specs.Walk.{deps_at}

-- the root reaches i, and nothing is committed there; or all that the root reaches is committed
abbrev pub IsMissing : Graph → ℕ → Option ℕ → Type 0
IsMissing g root None = IsComplete g root
IsMissing g root (Some i) = Reaches g root i × (g i ≡ None)

-- it isn't skipped, and nothing is committed there
abbrev pub is_lacking : Graph → List ℕ → ℕ → Bool
is_lacking g skipped i = is_out skipped i && is_none (g i)

-- the first such instance
abbrev pub first_lacking : Graph → List ℕ → List ℕ → Option ℕ
first_lacking g skipped [] = None
first_lacking g skipped (i ∷ is) = if is_lacking g skipped i then Some i else first_lacking g skipped is

-- a look at what i depends on: one that is lacking is found; or else i was seen, or is seen now, and its dependencies are still to follow
abbrev pub Visits : Graph → List ℕ → List ℕ → List ℕ → ℕ → Option ℕ → List ℕ → List ℕ → Type 0
Visits g skipped seen edges i (Some d) seen' edges' = first_lacking g skipped (deps_at (g i)) ≡ Some d
Visits g skipped seen edges i None seen' edges' =
    (Has seen i × (seen' ≡ seen) × (edges' ≡ edges))
    ⊎ ((¬ Has seen i) × (first_lacking g skipped (deps_at (g i)) ≡ None) × (seen' ≡ seen ++ i ∷ []) × (edges' ≡ edges ++ deps_at (cut g skipped i)))
