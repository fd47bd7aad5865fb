-- What each call does, by its status and by the replica before and after it, if any.
use Rattle.std.specs.Prelude.{◌≡◌, ◌⊎◌, ℕ, List, Option, None, Result, Ok, Err, true, false}
use Rattle.std.specs.Option.{MatchOption}
use Rattle.ep_base.specs.Commands.{Tx}
use Rattle.ep_base.specs.CommandParts.{is_tx, items_in, IsInRange}
use Rattle.ep_base.specs.declared.command.Command.{Command}
use Rattle.ep_base.specs.declared.command_fault.CommandFault.{CommandFault}
use Rattle.ep_embedded.specs.Hosting.{Hosting}
use Rattle.ep_embedded.specs.Taking.{HasTaken, IsNotTaken, IsUnheard, HasAdvanced, HasStopped, HasSwept, HasLeftOff}
use Rattle.ep_embedded.specs.declared.taking_fault.TakingFault.{TakingFault}
use Rattle.ep_journal.specs.declared.event.Event.{Event as Happening}
use Rattle.ep_journal.specs.declared.event.Event.TheVariants.{Propose, Handle}
use Rattle.ep_library.specs.Arguments.{named_in, IsNamed, IsPlace}
use Rattle.ep_library.specs.Statuses.{done, memory, out_of_range, no_replica, command_status, taking_status}
use Rattle.ep_library.specs.declared.call.Call.{Call}
use Rattle.ep_library.specs.declared.instance.Instance.{Instance}

-- there was no replica, as the status says, and there is none; or there is one, and this holds of it
abbrev pub Unless : ℕ → Option Hosting → Option Hosting → (Hosting → Hosting → Type 0) → Type 0
Unless status old new P = MatchOption old ((status ≡ no_replica) × (new ≡ None)) (λ h. MatchOption new ⊥ (λ k. P h k))

-- the replica is as it was, if there is one
abbrev pub Stays : ℕ → ℕ → Option Hosting → Option Hosting → Type 0
Stays why status old new = (status ≡ why) × (new ≡ old)

-- the event was taken, or wasn't, as the status says
abbrev pub Takes : ℕ → Hosting → Happening → Hosting → Type 0
Takes status h event k = ((status ≡ done) × HasTaken h event k) ⊎ ((fault : TakingFault) × (status ≡ taking_status fault) × IsNotTaken h event fault k)

-- a client's proposal
abbrev pub proposal : Call → Command → Happening
proposal call command = Propose call.client call.request command call.seen (named_in call)

-- its event is taken, or it names no replica
abbrev pub Asks : ℕ → Option Hosting → Call → Command → Option Hosting → Type 0
Asks status old call command new = ((¬ IsNamed call) × Stays out_of_range status old new) ⊎ Unless status old new (λ h k. Takes status h (proposal call command) k)

-- there was no memory for the command, it is none, or it is proposed
abbrev pub Proposes : ℕ → Option Hosting → Call → Command → Option Hosting → Type 0
Proposes status old call command new = Stays memory status old new ⊎ (((¬ IsInRange command) × Stays out_of_range status old new) ⊎ Asks status old call command new)

-- there was no memory for the command over many keys, the body is none of one, or it is proposed
abbrev pub ProposesMany : ℕ → Option Hosting → Call → List ℕ → Option Hosting → Type 0
ProposesMany status old call body new =
    Stays memory status old new
    ⊎ (((is_tx body ≡ false) × Stays out_of_range status old new)
    ⊎ ((is_tx body ≡ true) × Asks status old call (Tx (items_in body)) new))

-- a frame was handled, or wasn't, as the status says
abbrev pub Hears : ℕ → Hosting → List ℕ → Hosting → Type 0
Hears status h bytes k = ((status ≡ done) × HasTaken h (Handle bytes) k) ⊎ ((fault : TakingFault) × (status ≡ taking_status fault) × IsUnheard h bytes fault k)

-- there is no such instance, or its event is taken
abbrev pub Acts : ℕ → Option Hosting → Instance → Happening → Option Hosting → Type 0
Acts status old i event new = ((¬ IsPlace i) × Stays out_of_range status old new) ⊎ Unless status old new (λ h k. Takes status h event k)

-- all own instances that were ready were executed, or some, as the status says
abbrev pub Advances : ℕ → Hosting → Hosting → Type 0
Advances status h k = ((status ≡ done) × HasAdvanced h k) ⊎ ((fault : TakingFault) × (status ≡ taking_status fault) × HasStopped h fault k)

-- all instances that were ready were executed, or some, as the status says
abbrev pub Sweeps : ℕ → Hosting → Hosting → Type 0
Sweeps status h k = ((status ≡ done) × HasSwept h k) ⊎ ((fault : TakingFault) × (status ≡ taking_status fault) × HasLeftOff h fault k)

-- the command was made, and is proposed; or it wasn't, as the status says
abbrev pub Made : ℕ → Option Hosting → Call → Result Command CommandFault → Option Hosting → Type 0
Made status old call (Ok command) new = Asks status old call command new
Made status old call (Err fault) new = Stays (command_status fault) status old new
