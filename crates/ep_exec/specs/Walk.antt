-- A walk through a graph by a path of components.
use Rattle.std.specs.Prelude.{◌≡◌, ℕ, ◌⊎◌, ◌↔◌, List, [], ◌∷◌, ◌++◌, length, Option, Some, None, nat_lt, if◌then◌else◌, map, reverse, Vec}
use Rattle.std.specs.List.{flat_map, AllByRecursion}
use Rattle.std.specs.Global.{Global}
use Rattle.ep_base.specs.declared.attrs.Attrs.{Attrs}
use Rattle.ep_base.specs.Places.{place, Has}
use Rattle.ep_rules.specs.Graph.{Graph, Reaches}
use Rattle.ep_rules.specs.Order.{Together}
use Rattle.ep_exec.specs.declared.level.Level.{Level}

pub record Flat : Type 0 where
  pub members : List ℕ
  pub edges : List ℕ

abbrev pub flat : Level → Flat
flat l = record { members = l.members; edges = l.edges.items }

-- the path, the top first
abbrev pub stack : List Level → List Flat
stack ls = reverse (map flat ls)

abbrev pub members_of : List Flat → List ℕ
members_of s = flat_map (λ l. l.members) s

-- both lists, the longer one first
abbrev pub pooled : List ℕ → List ℕ → List ℕ
pooled xs ys = if nat_lt (length xs) (length ys) then ys ++ xs else xs ++ ys

abbrev pub joined : Flat → Flat → Flat
joined below top = record { members = pooled below.members top.members; edges = pooled below.edges top.edges }

abbrev pub merged : Flat → List Flat → ℕ → List Flat
merged t [] d = t ∷ []
merged t (b ∷ s) d = if nat_lt (place t.members d) (length t.members) then t ∷ b ∷ s else merged (joined b t) s d

abbrev pub deps_at : Option Attrs → List ℕ
deps_at None = []
deps_at (Some a) = a.deps

abbrev pub fresh : Graph → ℕ → Flat
fresh g d = record { members = d ∷ []; edges = deps_at (g d) }

abbrev pub Follows : Graph → List ℕ → Flat → List Flat → ℕ → List Flat → Type 0
Follows g closed t s d new =
    (Has closed d × (new ≡ t ∷ s))
    ⊎ (((¬ Has closed d) × (Has t.members d ⊎ Has (members_of s) d) × (new ≡ merged t s d))
    ⊎ ((¬ Has closed d) × (¬ (Has t.members d ⊎ Has (members_of s) d)) × (new ≡ fresh g d ∷ t ∷ s)))

abbrev pub lists : List (Vec ℕ Global) → List (List ℕ)
lists vs = map (λ v. v.items) vs

-- all that are in one component with its members, and no others
abbrev pub IsComponent : Graph → List ℕ → Type 0
IsComponent g c = (i j : ℕ) → Has c i → Has c j ↔ Together g i j

-- each component's dependencies are in it or in those before it, which it shares no instance with
abbrev pub DepsFirst : Graph → List ℕ → List (List ℕ) → Type 0
DepsFirst g before [] = Unit {0}
DepsFirst g before (c ∷ cs) =
    ((i d : ℕ) (a : Attrs) → Has c i → g i ≡ Some a → Has a.deps d → Has before d ⊎ Has c d)
    × ((i : ℕ) → Has c i → ¬ Has before i)
    × DepsFirst g (before ++ c) cs

-- the components of what the root reaches
pub record AreComponents (g : Graph) (root : ℕ) (cs : List (List ℕ)) : Type 0 where
  pub whole : (j : ℕ) → Has (flat_map (λ c. c) cs) j ↔ Reaches g root j
  pub each : AllByRecursion (IsComponent g) cs
  pub first : DepsFirst g [] cs

-- what is seen is what is closed or on the path
abbrev pub Sees : List ℕ → List ℕ → List Flat → Type 0
Sees seen closed s = (i : ℕ) → Has seen i ↔ (Has closed i ⊎ Has (members_of s) i)
