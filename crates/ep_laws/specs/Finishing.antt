-- All that a command leads to: ended by replicas alone, and then it is executed.
use Rattle.std.specs.Prelude.{◌≡◌, ℕ, ◌+◌, ◌*◌, ◌<◌, ◌≤◌, Bool, true, cond, is_none, None, List, [], ◌∷◌}
use Rattle.ep_base.specs.Ballots.{counter_of}
use Rattle.ep_base.specs.Instances.{leader_of}
use Rattle.ep_base.specs.Places.{Has}
use Rattle.ep_base.specs.Quorums.{size}
use Rattle.ep_rules.specs.Counting.{count}
use Rattle.ep_rules.specs.Maps.{Map}
use Rattle.ep_rules.specs.OneMap.{Store}
use Rattle.ep_rules.specs.Order.{IsComplete}
use Rattle.ep_rules.specs.States.{cell_in, record_in, committed_in, graph_in}
use Rattle.ep_rules.specs.Worlds.{World, opening, Act, IsRun, ends}
use Rattle.ep_rules.specs.declared.record.Record.{Record}
use Rattle.ep_laws.specs.Alone.{silenced, Serves, recoveries}
use Rattle.ep_laws.specs.Executing.{Executed}
use Rattle.ep_laws.specs.InTurn.{HasEnded}
use Rattle.ep_laws.specs.Known.{AllKnown}

-- how many of the instances aren't committed
abbrev pub open_among : Map Record → List ℕ → ℕ
open_among records [] = 0
open_among records (i ∷ is) = cond (is_none (committed_in records i)) 1 0 + open_among records is

-- the limit of counters isn't near in this instance
pub record HasCounters (f : ℕ) (live : ℕ → Bool) (w : World) (i : ℕ) : Type 0 where
  pub promised : (r : ℕ) → r < size f → live r ≡ true → counter_of (record_in (w.states r) i).promised < 59998
  pub reported : (r : ℕ) → r < size f → live r ≡ true → (cell_in (w.states r) i).reported < 59998

-- live replicas alone take these steps, each for one of the instances, at q
abbrev pub AllServeThese : (ℕ → Bool) → (q : ℕ) → List ℕ → List Act → Type 0
AllServeThese live q is [] = Unit {0}
AllServeThese live q is (a ∷ acts) = (live a.replica ≡ true) × ((i : ℕ) × Has is i × Serves q i a.replica a.event) × AllServeThese live q is acts

-- Live replicas alone end all of these instances at q, with two recoveries at most for each that is open. Then q has committed all that any of them leads to, and executes it, each of which is taken.
pub record Finishing (f : ℕ) (live : ℕ → Bool) (q : ℕ) (is : List ℕ) (w : World) : Type 0 where
  pub acts : List Act
  pub alone : IsRun f (silenced w) acts
  pub serve : AllServeThese live q is acts
  pub few : recoveries acts ≤ 2 * open_among (w.states q).records is
  pub committed : (i : ℕ) → Has is i → HasEnded (ends f w acts) q i
  pub complete : (root : ℕ) → Has is root → IsComplete (graph_in ((ends f w acts).states q).records) root
  pub executes : (root : ℕ) → Has is root → Executed f q ((ends f w acts).states q) root

-- Whatever live replicas know of, they can end all of it, alone, from any world that a run reaches: where limits aren't near, and there is room for as many sequence numbers as there are open instances.
abbrev pub CanFinish : Type 0
CanFinish = (base : Store) →
    (f : ℕ) → 0 < f → size f ≤ 256 → (acts : List Act) → IsRun f (opening base) acts →
    (live : ℕ → Bool) → f + 1 ≤ count (size f) live → (q : ℕ) → q < size f → live q ≡ true →
    let w = ends f (opening base) acts in
    (is : List ℕ) (m : ℕ) → ((i : ℕ) → Has is i → leader_of i < size f) → AllKnown f live is m w →
    ((i : ℕ) → Has is i → committed_in (w.states q).records i ≡ None → HasCounters f live w i) →
    m + open_among (w.states q).records is ≤ 999998 → Finishing f live q is w

-- A list of all that live replicas know of, and of one instance more.
pub record Survey (f : ℕ) (live : ℕ → Bool) (root : ℕ) (w : World) : Type 0 where
  pub is : List ℕ
  pub most : ℕ
  pub rooted : Has is root
  pub led : (i : ℕ) → Has is i → leader_of i < size f
  pub known : AllKnown f live is most w

-- There is always one.
abbrev pub CanSurvey : Type 0
CanSurvey = (base : Store) →
    (f : ℕ) → size f ≤ 256 → (acts : List Act) → IsRun f (opening base) acts →
    (live : ℕ → Bool) (root : ℕ) → leader_of root < size f → Survey f live root (ends f (opening base) acts)
