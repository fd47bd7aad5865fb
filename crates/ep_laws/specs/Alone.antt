-- What f+1 replicas can do alone: the others have stopped, and whatever was on its way is lost.
use Rattle.std.specs.Prelude.{◌≡◌, ℕ, ◌+◌, ◌<◌, ◌≤◌, Bool, true, List, [], ◌∷◌}
use Rattle.ep_base.specs.Ballots.{counter_of}
use Rattle.ep_base.specs.Instances.{leader_of}
use Rattle.ep_base.specs.Messages.{instance_of_message}
use Rattle.ep_base.specs.Quorums.{size}
use Rattle.ep_base.specs.declared.decree.Decree.{Decree}
use Rattle.ep_rules.specs.Counting.{count}
use Rattle.ep_rules.specs.InterferenceSet.{greatest_seq}
use Rattle.ep_rules.specs.Maps.{entries}
use Rattle.ep_rules.specs.OneMap.{Store}
use Rattle.ep_rules.specs.States.{cell_in, record_in}
use Rattle.ep_rules.specs.Steps.{Event, Propose, Handle, GiveUp, Recover, Execute}
use Rattle.ep_rules.specs.Worlds.{World, opening, Act, IsRun, ends, Committed}

-- the world, without the messages that are on their way
abbrev pub silenced : World → World
silenced w = record { states = w.states; sent = [] }

-- a message about i is handled, or q recovers i
abbrev pub Serves : (q i r : ℕ) → Event → Type 0
Serves q i r (Propose client request c seen spared) = ⊥
Serves q i r (Handle m) = instance_of_message m.sent.message ≡ i
Serves q i r (GiveUp j) = ⊥
Serves q i r (Recover j) = (r ≡ q) × (j ≡ i)
Serves q i r (Execute root) = ⊥

-- live replicas alone take these steps, for instance i at q
abbrev pub AllServe : (ℕ → Bool) → (q i : ℕ) → List Act → Type 0
AllServe live q i [] = Unit {0}
AllServe live q i (a ∷ acts) = (live a.replica ≡ true) × Serves q i a.replica a.event × AllServe live q i acts

-- what they handle was sent in these acts
pub record IsAlone (f : ℕ) (live : ℕ → Bool) (q i : ℕ) (w : World) (acts : List Act) : Type 0 where
  pub run : IsRun f (silenced w) acts
  pub serve : AllServe live q i acts

abbrev pub recovers : Event → ℕ
recovers (Propose client request c seen spared) = 0
recovers (Handle m) = 0
recovers (GiveUp i) = 0
recovers (Recover i) = 1
recovers (Execute root) = 0

-- how often they recover
abbrev pub recoveries : List Act → ℕ
recoveries [] = 0
recoveries (a ∷ acts) = recovers a.event + recoveries acts

-- What replicas do alone is a run of the world with all its messages, which leaves the same states.
pub record SameRun (f : ℕ) (w : World) (acts : List Act) : Type 0 where
  pub run : IsRun f w acts
  pub same : (r : ℕ) → (ends f w acts).states r ≡ (ends f (silenced w) acts).states r

abbrev pub AloneIsRun : Type 0
AloneIsRun = (f : ℕ) (w : World) (acts : List Act) → IsRun f (silenced w) acts → SameRun f w acts

-- The limits of counters and sequence numbers are not near.
pub record HasRoom (f : ℕ) (live : ℕ → Bool) (w : World) (i : ℕ) : Type 0 where
  pub promised : (r : ℕ) → r < size f → live r ≡ true → counter_of (record_in (w.states r) i).promised < 59998
  pub reported : (r : ℕ) → r < size f → live r ≡ true → (cell_in (w.states r) i).reported < 59998
  pub seqs : (r : ℕ) → r < size f → live r ≡ true → greatest_seq (entries (w.states r).records) < 999998

-- replicas that are live, q among them, do this alone, with at most two recoveries, and then q has committed instance i
pub record Ending (f : ℕ) (live : ℕ → Bool) (q i : ℕ) (w : World) : Type 0 where
  pub acts : List Act
  pub alone : IsAlone f live q i w acts
  pub few : recoveries acts ≤ 2
  pub decree : Decree
  pub committed : Committed (ends f w acts) q i decree

-- Any f+1 replicas can end any instance alone, from any world that a run reaches.
abbrev pub CanEnd : Type 0
CanEnd = (base : Store) →
    (f : ℕ) → 0 < f → size f ≤ 256 → (acts : List Act) → IsRun f (opening base) acts →
    (live : ℕ → Bool) → f + 1 ≤ count (size f) live → (q : ℕ) → q < size f → live q ≡ true → (i : ℕ) → leader_of i < size f →
    HasRoom f live (ends f (opening base) acts) i → Ending f live q i (ends f (opening base) acts)
