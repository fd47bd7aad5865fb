-- What committed instances depend on, and reach.
use Rattle.std.specs.Prelude.{◌≡◌, ℕ, Option, Some}
use Rattle.ep_base.specs.Places.{Has}
use Rattle.ep_base.specs.declared.attrs.Attrs.{Attrs}

-- what is committed in each instance
abbrev pub Graph : Type 0
Graph = ℕ → Option Attrs

-- an instance reaches itself, and what the instances that it reaches depend on
pub data Reaches (g : Graph) (i : ℕ) : ℕ → Type 0 where
  itself : Reaches g i i
  onward : {j k : ℕ} (a : Attrs) → Reaches g i j → g j ≡ Some a → Has a.deps k → Reaches g i k
