-- The replicas that the line of an open instance names, and that they suffice.
use Rattle.std.specs.Prelude.{◌≡◌, ℕ, ◌+◌, ◌<◌, ◌≤◌, Bool, true, cond, ltb, List, None}
use Rattle.ep_base.specs.Instances.{leader_of}
use Rattle.ep_base.specs.Places.{Has}
use Rattle.ep_base.specs.Quorums.{size}
use Rattle.ep_rules.specs.OneMap.{Store}
use Rattle.ep_rules.specs.States.{committed_in}
use Rattle.ep_rules.specs.Worlds.{World, opening, Act, IsRun, ends}
use Rattle.ep_laws.specs.Alone.{HasRoom, Ending}
use Rattle.ep_laws.specs.Finishing.{open_among, HasCounters, Finishing}
use Rattle.ep_laws.specs.InTurn.{HasEnded}
use Rattle.ep_laws.specs.Known.{AllKnown}
use Rattle.ep_laws.specs.Quiet.{IsRound, after_round}

-- the replica at this place among those that aren't the leader: nobody has to wait for the leader
abbrev pub name : ℕ → ℕ → ℕ
name leader k = cond (ltb k leader) k (k + 1)

-- those of the first f+1 places are live
abbrev pub AreHeard : (f : ℕ) → (ℕ → Bool) → (leader : ℕ) → Type 0
AreHeard f live leader = (k : ℕ) → k ≤ f → live (name leader k) ≡ true

-- Live replicas end the instance at q: by acts of theirs alone, with two recoveries at most; by any two rounds; and with it all that they know of.
pub record Suffices (f : ℕ) (live : ℕ → Bool) (q i : ℕ) (w : World) : Type 0 where
  pub ending : HasRoom f live w i → Ending f live q i w
  pub rounds : (first second : List Act) → IsRound f live q i w first → IsRound f live q i (after_round f w q i first) second → HasEnded (after_round f (after_round f w q i first) q i second) q i
  pub finishing :
      (is : List ℕ) (m : ℕ) → ((j : ℕ) → Has is j → leader_of j < size f) → AllKnown f live is m w →
      ((j : ℕ) → Has is j → committed_in (w.states q).records j ≡ None → HasCounters f live w j) → m + open_among (w.states q).records is ≤ 999998 → Finishing f live q is w

-- Whatever run there was, those that are named suffice, with whoever recovers the instance.
abbrev pub NamedSuffice : Type 0
NamedSuffice = (base : Store) →
    (f : ℕ) → 0 < f → size f ≤ 256 → (acts : List Act) → IsRun f (opening base) acts →
    (i : ℕ) → leader_of i < size f → (live : ℕ → Bool) → AreHeard f live (leader_of i) → (q : ℕ) → q < size f → live q ≡ true → Suffices f live q i (ends f (opening base) acts)
