-- Instances that are ended one after the other.
use Rattle.std.specs.Prelude.{◌≡◌, ℕ, ◌+◌, ◌<◌, ◌≤◌, Bool, true, List, [], ◌∷◌}
use Rattle.ep_base.specs.Instances.{leader_of}
use Rattle.ep_base.specs.Quorums.{size}
use Rattle.ep_base.specs.declared.decree.Decree.{Decree}
use Rattle.ep_rules.specs.Cells.{Refusal}
use Rattle.ep_rules.specs.Counting.{count}
use Rattle.ep_rules.specs.Graph.{Reaches}
use Rattle.ep_rules.specs.OneMap.{Store}
use Rattle.ep_rules.specs.States.{graph_in}
use Rattle.ep_rules.specs.Steps.{Execute, Refuses}
use Rattle.ep_rules.specs.Worlds.{World, opening, In, Act, IsRun, ends, Committed}
use Rattle.ep_laws.specs.Quiet.{IsRound, after_round}

-- q has committed the instance
abbrev pub HasEnded : World → (q i : ℕ) → Type 0
HasEnded w q i = (d : Decree) × Committed w q i d

-- from w, q ends i by as many rounds as it takes, two at most, which leave v
pub data Ends (f : ℕ) (live : ℕ → Bool) (q i : ℕ) (w v : World) : Type 0 where
  already : HasEnded w q i → w ≡ v → Ends f live q i w v
  by_one : (first : List Act) → IsRound f live q i w first → HasEnded (after_round f w q i first) q i → after_round f w q i first ≡ v → Ends f live q i w v
  by_two : (first second : List Act) → IsRound f live q i w first → IsRound f live q i (after_round f w q i first) second → after_round f (after_round f w q i first) q i second ≡ v → Ends f live q i w v

-- these, in turn
abbrev pub EndsAll : (f : ℕ) (live : ℕ → Bool) (q : ℕ) → World → List ℕ → World → Type 0
EndsAll f live q w [] v = w ≡ v
EndsAll f live q w (i ∷ is) v = (u : World) × Ends f live q i w u × EndsAll f live q u is v

-- Behind that q has committed all of them; and of an instance that reaches no others, the execution is refused for no reason.
pub record AllEnded (f q : ℕ) (is : List ℕ) (v : World) : Type 0 where
  pub committed : (i : ℕ) → In i is → HasEnded v q i
  pub executes : (root : ℕ) → leader_of root < size f → ((j : ℕ) → Reaches (graph_in (v.states q).records) root j → In j is) → (why : Refusal) → ¬ Refuses f q (v.states q) (Execute root) why

abbrev pub InTurn : Type 0
InTurn = (base : Store) →
    (f : ℕ) → 0 < f → size f ≤ 256 → (acts : List Act) → IsRun f (opening base) acts →
    (live : ℕ → Bool) → f + 1 ≤ count (size f) live → (q : ℕ) → q < size f → live q ≡ true →
    (is : List ℕ) → ((i : ℕ) → In i is → leader_of i < size f) → (v : World) → EndsAll f live q (ends f (opening base) acts) is v → AllEnded f q is v
