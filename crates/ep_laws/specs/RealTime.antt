-- What is between a read's question and its answer keeps real time with all operations, and with other reads.
use Rattle.std.specs.Prelude.{ℕ, ◌<◌, ◌≤◌, List, length, take}
use Rattle.ep_base.specs.Places.{place, Has}
use Rattle.ep_base.specs.Quorums.{size}
use Rattle.ep_base.specs.Commands.{Command}
use Rattle.ep_rules.specs.OneMap.{Store}
use Rattle.ep_rules.specs.Operations.{instances_of, history_of}
use Rattle.ep_rules.specs.Safety.{WasProposed}
use Rattle.ep_rules.specs.Steps.{order_of}
use Rattle.ep_rules.specs.Worlds.{opening, Act, In, IsRun}
use Rattle.ep_laws.specs.Reads.{Read, IsBetween}

pub record KeepsRealTime (base : Store) (f : ℕ) (acts : List Act) (r : Read) (p : ℕ) : Type 0 where
  -- it is behind each operation that some replica had executed when the read was asked
  pub behind :
      (i : ℕ) (a : Act) → Has (instances_of (history_of base f acts)) i → In a (take r.asked acts) → Has (order_of a.done) i →
      place (instances_of (history_of base f acts)) i < p
  -- and before each that is proposed after the answer
  pub before :
      (i : ℕ) (c : Command) (t : WasProposed base f acts i c) → Has (instances_of (history_of base f acts)) i → r.answered ≤ length t.before →
      p ≤ place (instances_of (history_of base f acts)) i
  -- and not behind any read that is asked after the answer: two reads in turn never go back
  pub in_turn : (s : Read) (q : ℕ) → r.answered ≤ s.asked → IsBetween base f acts s q → p ≤ q

-- Whatever is between a read's question and its answer keeps real time.
abbrev pub ReadsKeepRealTime : Type 0
ReadsKeepRealTime = (base : Store) (f : ℕ) → 0 < f → size f ≤ 256 → (acts : List Act) → IsRun f (opening base) acts → (r : Read) (p : ℕ) →
    IsBetween base f acts r p → KeepsRealTime base f acts r p
