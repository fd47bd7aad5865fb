-- What holds in every run: of 2f+1 replicas, of any acts from the opening world.
use Rattle.std.specs.Prelude.{◌≡◌, ◌≢◌, ◌⊎◌, ℕ, ◌+◌, ◌<◌, ◌≤◌, true, false, List, ◌∷◌, ◌++◌, Option, Some}
use Rattle.ep_base.specs.Instances.{instance_of, leader_of}
use Rattle.ep_base.specs.Interference.{interfere}
use Rattle.ep_base.specs.Quorums.{size}
use Rattle.ep_base.specs.Sameness.{is_noop}
use Rattle.ep_base.specs.Commands.{Command}
use Rattle.ep_base.specs.declared.decree.Decree.{Decree}
use Rattle.ep_base.specs.Places.{Has}
use Rattle.ep_rules.specs.States.{free_number}
use Rattle.ep_rules.specs.Steps.{Propose}
use Rattle.ep_rules.specs.Worlds.{World, opening, Act, IsRun, ends, Committed}
use Rattle.ep_rules.specs.OneMap.{Store}

-- No two replicas commit different commands or attributes in an instance, in any two worlds of one run.
abbrev pub Agreement : Type 0
Agreement = (base : Store) →
    (f : ℕ) → 0 < f → size f ≤ 256 → (early late : List Act) → IsRun f (opening base) (early ++ late) →
    (i r q : ℕ) (x y : Decree) → Committed (ends f (opening base) early) r i x → Committed (ends f (opening base) (early ++ late)) q i y → x ≡ y

-- What is committed stays so.
abbrev pub Permanence : Type 0
Permanence = (f : ℕ) (w : World) (late : List Act) → IsRun f w late → (i r : ℕ) (x : Decree) → Committed w r i x → Committed (ends f w late) r i x

-- a run has a proposal of c, at the replica that leads i, and i is the least instance of its own that it held no record of
pub record WasProposed (base : Store) (f : ℕ) (acts : List Act) (i : ℕ) (c : Command) : Type 0 where
  pub before : List Act
  pub proposal : Act
  pub after : List Act
  pub stands : before ++ (proposal ∷ after) ≡ acts
  pub replica : proposal.replica ≡ leader_of i
  pub client : ℕ
  pub request : ℕ
  pub seen : ℕ
  pub spared : Option ℕ
  pub event : proposal.event ≡ Propose client request c seen spared
  pub number : ℕ
  pub free : free_number ((ends f (opening base) before).states (leader_of i)).records (leader_of i) ≡ Some number
  pub instance : instance_of (leader_of i) (number + 1) ≡ i

-- A committed command other than a no-op is the one that its instance's leader proposed there.
abbrev pub Validity : Type 0
Validity = (base : Store) →
    (f : ℕ) → 0 < f → size f ≤ 256 → (acts : List Act) → IsRun f (opening base) acts →
    (i r : ℕ) (x : Decree) → Committed (ends f (opening base) acts) r i x → is_noop x.command ≡ false → WasProposed base f acts i x.command

-- Of two interfering committed commands one depends on the other.
abbrev pub Dependency : Type 0
Dependency = (base : Store) →
    (f : ℕ) → 0 < f → size f ≤ 256 → (early late : List Act) → IsRun f (opening base) (early ++ late) →
    (i j r q : ℕ) (x y : Decree) → i ≢ j → Committed (ends f (opening base) early) r i x → Committed (ends f (opening base) (early ++ late)) q j y →
    interfere x.command y.command ≡ true → Has x.attrs.deps j ⊎ Has y.attrs.deps i
