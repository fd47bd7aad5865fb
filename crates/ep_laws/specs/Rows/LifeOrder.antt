-- tools/generate writes this file, from crates/ep_laws/specs/LifeOrder.antt.
-- Reads in a life keep real time through all its generations.
use Rattle.std.specs.Prelude.{◌≡◌, ℕ, ◌+◌, ◌<◌, ◌≤◌, false, List, length, take}
use Rattle.ep_base.specs.Places.{Has}
use Rattle.ep_base.specs.Quorums.{size}
use Rattle.ep_laws.specs.Rows.Closing.{has_seal}
use Rattle.ep_laws.specs.Rows.Generations.{Turn, Steps, birth, IsLife, history_in, joined, one_history, place_in, HasIn}
use Rattle.ep_laws.specs.Rows.OneMap.{Contents}
use Rattle.ep_laws.specs.Rows.Steps.{order_of}
use Rattle.ep_laws.specs.Rows.Worlds.{Act, In}
use Rattle.ep_laws.specs.Rows.Reads.{Read}
use Rattle.ep_laws.specs.Rows.LifeReads.{history_to, IsLifeRead}

-- a read of generation g is right behind the first p operations there: between its question and its answer, and before a seal
pub record IsRight (start : Contents) (f : ℕ → ℕ) (turns : List Turn) (g : ℕ) (r : Read) (p : ℕ) : Type 0 where
  pub asked : length (history_to start f turns g r.asked) ≤ p
  pub answered : p ≤ length (history_to start f turns g r.answered)
  pub unsealed : has_seal (take p (history_in start f turns g)) ≡ false

-- its place in the life's one history
abbrev pub life_place : Contents → (ℕ → ℕ) → List Turn → ℕ → ℕ → ℕ
life_place start f turns g p = length (joined (history_in start f turns) g) + p

pub record KeepsLifeTime (start : Contents) (f : ℕ → ℕ) (turns : List Turn) (g : ℕ) (r : Read) (p : ℕ) : Type 0 where
  -- it is behind each operation, of whatever generation, that some replica had executed when the read was asked
  pub behind :
      (k i : ℕ) (a : Act) → HasIn (one_history start f turns) k i → In (Steps k a) (take r.asked turns) → Has (order_of a.done) i →
      place_in (one_history start f turns) k i < life_place start f turns g p
  -- and two reads in turn never go back, whatever their generations
  pub in_turn :
      (k : ℕ) (s : Read) (q : ℕ) → IsRight start f turns k s q → r.answered ≤ s.asked →
      life_place start f turns g p ≤ life_place start f turns k q

-- Where a read of one key in a generation is right, it keeps real time through all generations.
abbrev pub LifeReadsKeepRealTime : Type 0
LifeReadsKeepRealTime =
    (start : Contents) (f : ℕ → ℕ) → ((g : ℕ) → (0 < f g) × (size (f g) ≤ 256)) → (turns : List Turn) → IsLife f (birth start) turns →
    (g : ℕ) (r : Read) → IsLifeRead start f turns g r → (p : ℕ) → IsRight start f turns g r p → KeepsLifeTime start f turns g r p
