-- How the instances whose commands were done are gathered: as a set first, and then in rising order.
use Rattle.std.specs.Prelude.{◌≡◌, ◌≢◌, ◌↔◌, ◌⊎◌, ◌<◌, ℕ, List}
use Rattle.ep_base.specs.Deps.{IsRising}
use Rattle.ep_base.specs.Instances.{IsInstance}
use Rattle.ep_base.specs.Places.{Has}
use Rattle.ep_base.specs.declared.reply.Answer.{Answer}
use Rattle.ep_base.specs.declared.reply.Answer.TheVariants.{Replied}
use Rattle.ep_base.specs.declared.reply.Reply.{Reply}
use Rattle.ep_base.specs.declared.reply.Reply.TheVariants.{Closed}
use Rattle.ep_rules.specs.Worlds.{In}

-- it is a reply, and not that the map is closed
abbrev pub WasDone : Answer → Type 0
WasDone x = (reported : Reply) × (x ≡ Replied reported) × (reported ≢ Closed)

-- one of the executions answers the instance so
abbrev pub WasAnsweredIn : List (ℕ × Answer) → ℕ → Type 0
WasAnsweredIn done i = (reported : Reply) × In (i, Replied reported) done × (reported ≢ Closed)

-- the set has what it had, and those of which P holds, each an instance
pub record Gains (P : ℕ → Type 0) (old new : List ℕ) : Type 0 where
  pub has : (i : ℕ) → Has new i ↔ (Has old i ⊎ P i)
  pub instances : (i : ℕ) → P i → IsInstance i

-- the list has what the set has below the bound, in rising order, and nothing else
pub record AreBelow (set : List ℕ) (bound : ℕ) (list : List ℕ) : Type 0 where
  pub rising : IsRising list
  pub has : (i : ℕ) → Has list i ↔ (Has set i × (i < bound))
