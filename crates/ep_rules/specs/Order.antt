-- The execution order (EPaxos, section 4.3.2: the execution algorithm).
use Rattle.std.specs.Prelude.{◌≡◌, ℕ, ◌<◌, ◌⊎◌, ◌↔◌, List, [], ◌∷◌, ◌++◌, Option, Some, None}
use Rattle.std.specs.List.{flat_map}
use Rattle.ep_base.specs.declared.attrs.Attrs.{Attrs}
use Rattle.ep_base.specs.Places.{Has}
use Rattle.ep_rules.specs.Graph.{Graph, Reaches}

abbrev pub seq_at : Option Attrs → ℕ
seq_at None = 0
seq_at (Some a) = a.seq

-- inside a component i goes before j: by seq, then replica, then number
abbrev pub Ranks : Graph → ℕ → ℕ → Type 0
Ranks g i j = (seq_at (g i) < seq_at (g j)) ⊎ ((seq_at (g i) ≡ seq_at (g j)) × (i < j))

-- each goes before all that stand after it
abbrev pub Rises : Graph → List ℕ → Type 0
Rises g [] = Unit {0}
Rises g (i ∷ is) = ((j : ℕ) → Has is j → Ranks g i j) × Rises g is

-- two instances are in one component
abbrev pub Together : Graph → ℕ → ℕ → Type 0
Together g i j = Reaches g i j × Reaches g j i

-- i is left, and what it reaches is done or in its own component
pub record IsReady (g : Graph) (done : List ℕ) (i : ℕ) : Type 0 where
  pub left : ¬ Has done i
  pub clear : (j : ℕ) → Reaches g i j → Has done j ⊎ Reaches g j i

-- the block is what is left of the component of `first`, in the order of ranks
pub record IsBlock (g : Graph) (done : List ℕ) (first : ℕ) (block : List ℕ) : Type 0 where
  pub members : (j : ℕ) → Has block j ↔ (Together g first j × ¬ Has done j)
  pub rises : Rises g block

-- the block is what is left of the component of the least ready instance that the root reaches
pub record IsNext (g : Graph) (done : List ℕ) (root : ℕ) (block : List ℕ) : Type 0 where
  pub first : ℕ
  pub reached : Reaches g root first
  pub ready : IsReady g done first
  pub least : (j : ℕ) → Reaches g root j → IsReady g done j → ¬ (j < first)
  pub is : IsBlock g done first block

-- block after block, until nothing that the root reaches is left
abbrev pub InBlocks : Graph → List ℕ → ℕ → List (List ℕ) → Type 0
InBlocks g done root [] = (j : ℕ) → Reaches g root j → Has done j
InBlocks g done root (block ∷ blocks) = IsNext g done root block × InBlocks g (done ++ block) root blocks

-- all that the root reaches is committed
abbrev pub IsComplete : Graph → ℕ → Type 0
IsComplete g root = (j : ℕ) → Reaches g root j → (a : Attrs) × (g j ≡ Some a)

-- all that the root reaches and is left, component after component
abbrev pub IsListed : Graph → List ℕ → ℕ → List ℕ → Type 0
IsListed g done root order = (blocks : List (List ℕ)) × (order ≡ flat_map (λ b. b) blocks) × InBlocks g done root blocks

-- the execution order of a root that isn't executed
abbrev pub IsOrder : Graph → List ℕ → ℕ → List ℕ → Type 0
IsOrder g done root order = IsComplete g root × IsListed g done root order

-- what an execution of the root does, after these were executed: nothing again, or the whole order
abbrev pub IsPlan : Graph → List ℕ → ℕ → List ℕ → Type 0
IsPlan g done root order = (Has done root × (order ≡ [])) ⊎ ((¬ Has done root) × IsOrder g done root order)

-- the root can't be executed, and i is the least one for which it waits
pub record IsBlocked (g : Graph) (done : List ℕ) (root i : ℕ) : Type 0 where
  pub left : ¬ Has done root
  pub reached : Reaches g root i
  pub missing : g i ≡ None
  pub least : (j : ℕ) → Reaches g root j → g j ≡ None → ¬ (j < i)

-- what was executed is committed, and all that it depends on was executed
abbrev pub IsClosed : Graph → List ℕ → Type 0
IsClosed g done = (i : ℕ) → Has done i → (a : Attrs) × (g i ≡ Some a) × ((j : ℕ) → Has a.deps j → Has done j)
