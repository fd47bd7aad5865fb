-- Rounds: a recovery, and whatever the live replicas make of it, in any order.
use Rattle.std.specs.Prelude.{◌≡◌, ◌≢◌, ◌⊎◌, ℕ, ◌+◌, ◌<◌, ◌≤◌, Bool, true, List, [], ◌∷◌}
use Rattle.ep_base.specs.Ballots.{ballot_of}
use Rattle.ep_base.specs.Instances.{leader_of}
use Rattle.ep_base.specs.Quorums.{size}
use Rattle.ep_base.specs.declared.decree.Decree.{Decree}
use Rattle.ep_rules.specs.Counting.{count}
use Rattle.ep_rules.specs.OneMap.{Store}
use Rattle.ep_rules.specs.Recovery.{next_counter}
use Rattle.ep_rules.specs.States.{cell_in, record_in}
use Rattle.ep_rules.specs.Steps.{Sent, Event, Propose, Handle, GiveUp, Recover, Execute}
use Rattle.ep_rules.specs.Worlds.{World, opening, In, Act, IsRun, ends, Committed}
use Rattle.ep_laws.specs.Alone.{silenced}

-- this message is handled
abbrev pub Handles : Sent → Event → Type 0
Handles s (Propose client request c seen spared) = ⊥
Handles s (Handle m) = m.sent ≡ s
Handles s (GiveUp i) = ⊥
Handles s (Recover i) = ⊥
Handles s (Execute root) = ⊥

-- one of these acts does so
abbrev pub IsHandled : Sent → List Act → Type 0
IsHandled s [] = ⊥
IsHandled s (a ∷ acts) = Handles s a.event ⊎ IsHandled s acts

-- live replicas handle messages, and do nothing else
abbrev pub Quiet : (ℕ → Bool) → List Act → Type 0
Quiet live [] = Unit {0}
Quiet live (a ∷ acts) = (live a.replica ≡ true) × ((s : Sent) × Handles s a.event) × Quiet live acts

abbrev pub recovering : (q i : ℕ) → Act
recovering q i = record { replica = q; event = Recover i; done = [] }

-- q recovers i, and then the live replicas handle all that they are sent from then on, each message at least once, and in any order
pub record IsRound (f : ℕ) (live : ℕ → Bool) (q i : ℕ) (w : World) (acts : List Act) : Type 0 where
  pub run : IsRun f (silenced w) (recovering q i ∷ acts)
  pub quiet : Quiet live acts
  pub complete : (s : Sent) → In s (ends f (silenced w) (recovering q i ∷ acts)).sent → live s.to ≡ true → IsHandled s acts

abbrev pub after_round : ℕ → World → (q i : ℕ) → List Act → World
after_round f w q i acts = ends f (silenced w) (recovering q i ∷ acts)

-- the ballot at which q recovers i
abbrev pub next_ballot : World → (q i : ℕ) → ℕ
next_ballot w q i = ballot_of (next_counter (record_in (w.states q) i) (cell_in (w.states q) i).reported) q

-- A round ends the instance, whatever the order of its messages, if no other live replica has promised as much as the ballot at which it recovers.
abbrev pub RoundEnds : Type 0
RoundEnds = (base : Store) →
    (f : ℕ) → 0 < f → size f ≤ 256 → (acts : List Act) → IsRun f (opening base) acts →
    (live : ℕ → Bool) → f + 1 ≤ count (size f) live → (q : ℕ) → q < size f → live q ≡ true → (i : ℕ) → leader_of i < size f →
    let w = ends f (opening base) acts in
    ((x : ℕ) → x < size f → live x ≡ true → x ≢ q → (record_in (w.states x) i).promised < next_ballot w q i) →
    (late : List Act) → IsRound f live q i w late → (d : Decree) × Committed (after_round f w q i late) q i d

-- A second round ends it, whatever was promised before the first one.
abbrev pub Unstuck : Type 0
Unstuck = (base : Store) →
    (f : ℕ) → 0 < f → size f ≤ 256 → (acts : List Act) → IsRun f (opening base) acts →
    (live : ℕ → Bool) → f + 1 ≤ count (size f) live → (q : ℕ) → q < size f → live q ≡ true → (i : ℕ) → leader_of i < size f →
    let w = ends f (opening base) acts in
    (first second : List Act) → IsRound f live q i w first → IsRound f live q i (after_round f w q i first) second → (d : Decree) × Committed (after_round f (after_round f w q i first) q i second) q i d
