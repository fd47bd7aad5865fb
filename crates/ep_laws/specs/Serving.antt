-- A command that a live replica proposes can be executed, and isn't lost; so a seal can close the map.
use Rattle.std.specs.Prelude.{◌≡◌, ℕ, ◌+◌, ◌<◌, ◌≤◌, Bool, true, None, List, [], ◌∷◌}
use Rattle.ep_base.specs.Commands.{Command, Seal}
use Rattle.ep_base.specs.Instances.{instance_of, leader_of, highest_number}
use Rattle.ep_base.specs.Places.{Has}
use Rattle.ep_base.specs.Quorums.{size}
use Rattle.ep_base.specs.declared.decree.Decree.{Decree}
use Rattle.ep_rules.specs.Closing.{HasClosed}
use Rattle.ep_rules.specs.Counting.{count}
use Rattle.ep_rules.specs.OneMap.{Store}
use Rattle.ep_rules.specs.Steps.{Propose, may_ask}
use Rattle.ep_rules.specs.Worlds.{World, opening, In, Act, IsRun, ends, Committed}
use Rattle.ep_laws.specs.Alone.{silenced}
use Rattle.ep_laws.specs.Finishing.{open_among, HasCounters}
use Rattle.ep_laws.specs.Known.{AllKnown}

-- live replicas alone take these steps
abbrev pub AllLive : (ℕ → Bool) → List Act → Type 0
AllLive live [] = Unit {0}
AllLive live (a ∷ acts) = (live a.replica ≡ true) × AllLive live acts

abbrev pub proposing : (q client request : ℕ) → Command → (seen : ℕ) → Act
proposing q client request c seen = record { replica = q; event = Propose client request c seen None; done = [] }

-- Live replicas alone take these steps, among which q proposes the command, commits it, and executes it.
pub record Serving (f : ℕ) (live : ℕ → Bool) (proposal : Act) (c : Command) (w : World) : Type 0 where
  pub acts : List Act
  pub alone : IsRun f (silenced w) acts
  pub lives : AllLive live acts
  pub proposed : In proposal acts
  pub instance : ℕ
  pub own : leader_of instance ≡ proposal.replica
  pub decree : Decree
  pub committed : Committed (ends f w acts) proposal.replica instance decree
  pub command : decree.command ≡ c
  pub executed : Has ((ends f w acts).states proposal.replica).executed instance

-- q leads an instance more that no live replica knows of, the limit of counters isn't near, and there is room for as many sequence numbers as there are open instances, and two more
pub record HasRoomFor (f : ℕ) (live : ℕ → Bool) (q : ℕ) (w : World) : Type 0 where
  pub is : List ℕ
  pub most : ℕ
  pub led : (i : ℕ) → Has is i → leader_of i < size f
  pub known : AllKnown f live is most w
  pub counters : (i : ℕ) → leader_of i < size f → HasCounters f live w i
  pub seqs : most + open_among (w.states q).records is + 2 ≤ 999998
  pub number : ℕ
  pub low : number < highest_number
  pub unknown : ¬ Has is (instance_of q (number + 1))

-- From any world that a run reaches, any command that a live replica may be asked for can be executed at it by live replicas alone, and isn't lost.
abbrev pub CanServe : Type 0
CanServe = (base : Store) →
    (f : ℕ) → 0 < f → size f ≤ 256 → (acts : List Act) → IsRun f (opening base) acts →
    (live : ℕ → Bool) → f + 1 ≤ count (size f) live → (q : ℕ) → q < size f → live q ≡ true →
    HasRoomFor f live q (ends f (opening base) acts) →
    (client request : ℕ) (c : Command) (seen : ℕ) → may_ask client request c ≡ true → Serving f live (proposing q client request c seen) c (ends f (opening base) acts)

-- Whoever has executed a seal has closed its map: so a generation can always be closed.
abbrev pub ServedSealCloses : Type 0
ServedSealCloses = (base : Store) →
    (f : ℕ) → 0 < f → size f ≤ 256 → (acts : List Act) → IsRun f (opening base) acts →
    (live : ℕ → Bool) (proposal : Act) (v : List ℕ) (s : Serving f live proposal (Seal v) (ends f (opening base) acts)) → HasClosed (ends f (ends f (opening base) acts) s.acts) proposal.replica

-- There is such room at first, so that this says something.
abbrev pub RoomAtFirst : Type 0
RoomAtFirst = (base : Store) (f : ℕ) → size f ≤ 256 → (live : ℕ → Bool) (q : ℕ) → q < size f → HasRoomFor f live q (opening base)
