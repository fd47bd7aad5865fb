-- What an execution reports.
use Rattle.std.specs.Prelude.{◌≡◌, ◌⊎◌, ℕ, Option, Some, None}
use Rattle.ep_base.specs.Instances.{leader_of, number_of}
use Rattle.ep_embedded.specs.Hosting.{Hosting}
use Rattle.ep_embedded.specs.Taking.{HasTaken, IsNotTaken}
use Rattle.ep_embedded.specs.declared.taking_fault.TakingFault.{TakingFault}
use Rattle.ep_embedded.specs.declared.taking_fault.TakingFault.TheVariants.{Lent, Refused}
use Rattle.ep_journal.specs.Refusals.{names}
use Rattle.ep_journal.specs.declared.event.Event.TheVariants.{Execute}
use Rattle.ep_library.specs.Arguments.{instance_in, IsPlace}
use Rattle.ep_library.specs.Calls.{Stays, Unless}
use Rattle.ep_library.specs.Statuses.{done, out_of_range, taking_status}
use Rattle.ep_library.specs.declared.instance.Instance.{Instance}

-- an instance, as C has it
abbrev pub instance_out : ℕ → Instance
instance_out i = record { number = number_of i; replica = leader_of i }

-- the instance that a refusal names; else this one
abbrev pub or_other : Option ℕ → Instance → Instance
or_other None other = other
or_other (Some i) other = instance_out i

abbrev pub named : TakingFault → Instance → Instance
named Lent other = other
named (Refused refusal) other = or_other (names refusal) other

-- the instance was executed; or it wasn't, as the status says, and what it waits for is reported where that is why
abbrev pub Tries : ℕ → Hosting → ℕ → Instance → Hosting → Instance → Type 0
Tries status h i other k reported =
    ((status ≡ done) × HasTaken h (Execute i) k × (reported ≡ other))
    ⊎ ((fault : TakingFault) × (status ≡ taking_status fault) × IsNotTaken h (Execute i) fault k × (reported ≡ named fault other))

abbrev pub Executes : ℕ → Option Hosting → Instance → Instance → Option Hosting → Instance → Type 0
Executes status old i other new reported =
    ((¬ IsPlace i) × Stays out_of_range status old new × (reported ≡ other))
    ⊎ Unless status old new (λ h k. Tries status h (instance_in i) other k reported)
