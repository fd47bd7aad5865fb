-- What holds of a world, whatever was played.
use Rattle.std.specs.Prelude.{◌≡◌, ◌≢◌, ◌⊎◌, ℕ, true, false, List, Option, Some}
use Rattle.ep_base.specs.Instances.{leader_of}
use Rattle.ep_base.specs.Interference.{interfere}
use Rattle.ep_base.specs.Places.{Has}
use Rattle.ep_base.specs.Sameness.{is_noop}
use Rattle.ep_base.specs.declared.decree.Decree.{Decree}
use Rattle.ep_rules.specs.Journals.{Scheduled, acts_of}
use Rattle.ep_rules.specs.Linearizable.{IsLinearizable}
use Rattle.ep_rules.specs.Verdicts.{committed_by, Proposes}
use Rattle.ep_journal.specs.Openings.{opens}
use Rattle.ep_world.specs.Played.{Played, journals_in, Shows}

-- what replica r has committed in instance i
abbrev pub committed : Played → ℕ → ℕ → Option Decree
committed w r i = committed_by (opens w.opening) w.faults (journals_in w) r i

-- no two replicas commit different commands or attributes in an instance
abbrev pub Agree : Played → Type 0
Agree w = (i r q : ℕ) (x y : Decree) → committed w r i ≡ Some x → committed w q i ≡ Some y → x ≡ y

-- what was committed stays so
abbrev pub Keeps : Played → Played → Type 0
Keeps w w' = (i r : ℕ) (x : Decree) → committed w r i ≡ Some x → committed w' r i ≡ Some x

-- a committed command other than a no-op was proposed there, by the replica that leads the instance
abbrev pub WereProposed : Played → Type 0
WereProposed w =
    (r i : ℕ) (x : Decree) → committed w r i ≡ Some x → is_noop x.command ≡ false →
    (client request : ℕ) × (p : Proposes (opens w.opening) w.faults (leader_of i) (journals_in w (leader_of i)) i client request) × (p.command ≡ x.command)

-- of two interfering committed commands one depends on the other
abbrev pub Depend : Played → Type 0
Depend w =
    (i j r q : ℕ) (x y : Decree) → i ≢ j → committed w r i ≡ Some x → committed w q j ≡ Some y →
    interfere x.command y.command ≡ true → Has x.attrs.deps j ⊎ Has y.attrs.deps i

-- what the world played is linearizable: its history, in the order of first executions, is a linearization
pub record Linearizable (w : Played) : Type 0 where
  pub schedule : List Scheduled
  pub shows : Shows w schedule
  pub run : IsLinearizable (opens w.opening) w.faults (acts_of schedule)
