-- The components that are ready, and those that wait.
use Rattle.std.specs.Prelude.{◌≡◌, ℕ, ◌<◌, ◌+◌, ◌⊎◌, List, [], ◌∷◌, ◌++◌, ◌==◌, Option, Some, None, if◌then◌else◌, Vec}
use Rattle.std.specs.BTreeMap.{BTreeMap, get}
use Rattle.std.specs.Global.{Global}
use Rattle.std.specs.List.{AllByRecursion}
use Rattle.std.specs.Ordering.{nat_cmp}
use Rattle.ep_base.specs.declared.attrs.Attrs.{Attrs}
use Rattle.ep_base.specs.Places.{Has}
use Rattle.ep_rules.specs.Graph.{Graph}
use Rattle.ep_exec.specs.Found.{IsLeast}
use Rattle.ep_exec.specs.Ready.{Waiting}
use Rattle.ep_exec.specs.Walk.{IsComponent}

-- the component of this priority that is ready
abbrev pub ready_at : BTreeMap ℕ Waiting → ℕ → Option Waiting
ready_at m q = get nat_cmp m q

abbrev pub items_of : Option (Vec Waiting Global) → List Waiting
items_of None = []
items_of (Some v) = v.items

-- the components that wait for an instance
abbrev pub waiting_at : BTreeMap ℕ (Vec Waiting Global) → ℕ → List Waiting
waiting_at m q = items_of (get nat_cmp m q)

-- one more waits for d
abbrev pub WaitsMore : (ℕ → List Waiting) → ℕ → Waiting → (ℕ → List Waiting) → Type 0
WaitsMore old d w new = (q : ℕ) → new q ≡ (if q == d then old q ++ w ∷ [] else old q)

-- a component's priority, the least first: its least instance that was not executed, put above all instances; or where
-- each was executed, its least one
abbrev pub IsPriority : List ℕ → List ℕ → Option ℕ → Type 0
IsPriority executed c None = (i : ℕ) → ¬ Has c i
IsPriority executed c (Some x) =
    ((i : ℕ) × IsLeast (λ j. ¬ Has executed j) c (Some i) × (x ≡ i + 524288))
    ⊎ ((x < 524288) × IsLeast (λ _. Unit {0}) c (Some x) × ((i : ℕ) → Has c i → Has executed i))

-- one more is ready, unless it has no members
abbrev pub MadeReady : List ℕ → (ℕ → Option Waiting) → Waiting → (ℕ → Option Waiting) → Type 0
MadeReady executed old w new =
    (IsPriority executed w.members None × ((q : ℕ) → new q ≡ old q))
    ⊎ ((x : ℕ) × IsPriority executed w.members (Some x) × ((q : ℕ) → new q ≡ (if q == x then Some w else old q)))

-- the one of the least priority is taken
abbrev pub Takes : (ℕ → Option Waiting) → Option Waiting → (ℕ → Option Waiting) → Type 0
Takes old None new = (q : ℕ) → old q ≡ None
Takes old (Some w) new = (x : ℕ) × (old x ≡ Some w) × ((q : ℕ) → new q ≡ (if q == x then None else old q)) × ((q : ℕ) (v : Waiting) → old q ≡ Some v → ¬ (q < x))

-- one of these depends on d, which is outside of the component
pub record IsWait (g : Graph) (c js : List ℕ) (d : ℕ) : Type 0 where
  pub apart : ¬ Has c d
  pub from : ℕ
  pub attrs : Attrs
  pub member : Has js from
  pub is : g from ≡ Some attrs
  pub dep : Has attrs.deps d

-- a component of these, none of which is in a finished one
pub record IsPlaced (g : Graph) (all finished : List ℕ) (w : Waiting) : Type 0 where
  pub comp : IsComponent g w.members
  pub within : (i : ℕ) → Has w.members i → Has all i
  pub apart : (i : ℕ) → Has w.members i → ¬ Has finished i
  pub deps : (i d : ℕ) (a : Attrs) → Has w.members i → g i ≡ Some a → Has a.deps d → Has w.members d ⊎ (Has w.waits d ⊎ Has finished d)
  pub outside : (d : ℕ) → Has w.waits d → IsWait g w.members w.members d

-- a component that waits for none, by its priority
pub record IsFirst (g : Graph) (executed all finished : List ℕ) (x : ℕ) (w : Waiting) : Type 0 where
  pub placed : IsPlaced g all finished w
  pub priority : IsPriority executed w.members (Some x)
  pub clear : (d : ℕ) → ¬ Has w.waits d

-- a component that waits for d, which isn't in a finished one, or is one of those to be looked at
pub record IsBehind (g : Graph) (all finished left : List ℕ) (d : ℕ) (w : Waiting) : Type 0 where
  pub placed : IsPlaced g all finished w
  pub waits_for : Has w.waits d
  pub still : (¬ Has finished d) ⊎ Has left d

-- i is in one of the components
abbrev pub Among : List Waiting → ℕ → Type 0
Among [] i = ⊥
Among (w ∷ ws) i = Has w.members i ⊎ Among ws i

pub record IsInReady (ready : ℕ → Option Waiting) (i : ℕ) : Type 0 where
  pub at : ℕ
  pub part : Waiting
  pub is : ready at ≡ Some part
  pub has : Has part.members i

pub record IsInWaiting (waits : ℕ → List Waiting) (i : ℕ) : Type 0 where
  pub at : ℕ
  pub has : Among (waits at) i

-- each component is finished, is still to be looked at, is ready, or waits
pub record Stands (g : Graph) (executed all finished : List ℕ) (todo : List Waiting) (left : List ℕ) (ready : ℕ → Option Waiting) (waits : ℕ → List Waiting) : Type 0 where
  pub covers : (i : ℕ) → Has all i → Has finished i ⊎ (Among todo i ⊎ (IsInReady ready i ⊎ IsInWaiting waits i))
  pub placed : AllByRecursion (IsPlaced g all finished) todo
  pub first : (x : ℕ) (w : Waiting) → ready x ≡ Some w → IsFirst g executed all finished x w
  pub behind : (d : ℕ) → AllByRecursion (IsBehind g all finished left d) (waits d)
