-- Events of a world, and what comes of them.
use Rattle.std.specs.Prelude.{◌≡◌, ◌⊎◌, ℕ, zero, suc, ◌<◌, ◌≤◌, List, [], ◌∷◌, ◌++◌, Option, Some, None, take, slice_get}
use Rattle.ep_base.specs.Quorums.{size}
use Rattle.ep_journal.specs.Entries.{frames_at}
use Rattle.ep_journal.specs.Events.{frame_at}
use Rattle.ep_journal.specs.declared.entry.Entry.{Entry}
use Rattle.ep_journal.specs.declared.event.Event.{Event as Happening}
use Rattle.ep_journal.specs.declared.event.Event.TheVariants as taken
use Rattle.ep_journal.specs.declared.step_fault.StepFault.{StepFault}
use Rattle.ep_journal.specs.declared.step_fault.StepFault.TheVariants.{Memory, OutOfRange}
use Rattle.ep_replica.specs.Applied.{Applied, IsDeclined}
use Rattle.ep_world.specs.Played.{Played, replica_in, message_in, places_of}
use Rattle.ep_journal.specs.declared.refusal.Refusal.{Refusal}
use Rattle.ep_journal.specs.declared.refusal.Refusal.TheVariants.{Step, NoSuchMessage}
use Rattle.ep_world.specs.declared.refused.Refused.{Refused}
use Rattle.ep_world.specs.declared.world_event.WorldEvent.{WorldEvent}
use Rattle.ep_world.specs.declared.world_event.WorldEvent.TheVariants.{Propose, GiveUp, Recover, Execute, Deliver}

-- a frame is handled by its receiver
abbrev pub given : Option (List ℕ) → Option (ℕ × Happening)
given None = None
given (Some bytes) = Some ((frame_at bytes).sent.to, taken.Handle bytes)

-- the replica that the event is for, and what happens to it; none where there is no such message
abbrev pub asked : Played → WorldEvent → Option (ℕ × Happening)
asked w (Propose replica client request command seen spared) = Some (replica, taken.Propose client request command seen spared)
asked w (GiveUp replica instance) = Some (replica, taken.GiveUp instance)
asked w (Recover replica instance) = Some (replica, taken.Recover instance)
asked w (Execute replica instance) = Some (replica, taken.Execute instance)
asked w (Deliver message) = given (message_in w message)

abbrev pub with_entry : List (List Entry) → ℕ → Entry → List (List Entry)
with_entry [] r e = []
with_entry (es ∷ rest) zero e = (es ++ e ∷ []) ∷ rest
with_entry (es ∷ rest) (suc r) e = es ∷ with_entry rest r e

-- the world with one entry more, of replica r
abbrev pub grown : Played → ℕ → Entry → Played
grown w r e = record {
  version = w.version;
  faults = w.faults;
  opening = w.opening;
  entries = with_entry w.entries r e;
  steps = w.steps ++ (r, e.number) ∷ [];
  messages = w.messages ++ places_of (frames_at e.frames);
}

-- the event is one step of its replica, whose entry the world has played
pub record Happens (w : Played) (event : WorldEvent) (w' : Played) : Type 0 where
  pub replica : ℕ
  pub taken : Happening
  pub entry : Entry
  pub asked : asked w event ≡ Some (replica, taken)
  pub there : replica < size w.faults
  pub applied : Applied (replica_in w replica) taken entry (replica_in w' replica)
  pub becomes : w' ≡ grown w replica entry

-- why the event is no step: out of memory; there is no such message; there is no such replica; or the replica's first reason
abbrev pub IsNotEnabled : Played → WorldEvent → Refusal → Type 0
IsNotEnabled w event cause =
    (cause ≡ Step Memory)
    ⊎ ((message : ℕ) × (cause ≡ NoSuchMessage message) × (event ≡ Deliver message) × (message_in w message ≡ None))
    ⊎ ((replica : ℕ) × (taken : Happening) × (cause ≡ Step OutOfRange) × (asked w event ≡ Some (replica, taken)) × (size w.faults ≤ replica))
    ⊎ ((replica : ℕ) × (taken : Happening) × (fault : StepFault) × (cause ≡ Step fault) × (asked w event ≡ Some (replica, taken)) × (replica < size w.faults) × IsDeclined (replica_in w replica) taken fault)

-- each event is a step, in order
abbrev pub Happen : Played → List WorldEvent → Played → Type 0
Happen w [] w' = w' ≡ w
Happen w (event ∷ events) w' = (next : Played) × Happens w event next × Happen next events w'

-- the events before the index are steps, and the one there isn't
pub record Ends (w : Played) (events : List WorldEvent) (refused : Refused) (w' : Played) : Type 0 where
  pub event : WorldEvent
  pub stands : slice_get events refused.index ≡ Some event
  pub before : Happen w (take refused.index events) w'
  pub cause : IsNotEnabled w' event refused.cause
