-- One step of a replica's parts: what the screen lets through, and how what is asked of an instance is done.
use Rattle.std.specs.Prelude.{◌≡◌, ℕ, List, [], Option, Some, None, Result, Ok, Err}
use Rattle.ep_base.specs.declared.version.Version.{Version}
use Rattle.ep_frame.specs.Meaning.{sender_at, message_at}
use Rattle.ep_phase.specs.InstanceViews.{view_of}
use Rattle.ep_rules.specs.Cells.{Change, Refusal}
use Rattle.ep_rules.specs.States.{State, changed}
use Rattle.ep_rules.specs.Steps.{at, acts, screened, sent_from, Executes}
use Rattle.ep_journal.specs.Holding.{HasRoom}
use Rattle.ep_journal.specs.Events.{event_of, IsReadable, lacking, AreSpelled}
use Rattle.ep_journal.specs.Inputs.{handled_at, outcome_at, settling}
use Rattle.ep_journal.specs.ReplicaStates.{known}
use Rattle.ep_journal.specs.Refused.{named}
use Rattle.ep_journal.specs.Standing.{Standing, stands, Advances, IsRefused}
use Rattle.ep_journal.specs.declared.entry.Entry.{Entry}
use Rattle.ep_journal.specs.declared.event.Event.{Event as Happening}
use Rattle.ep_journal.specs.declared.input.Input.{Input}
use Rattle.ep_journal.specs.declared.mark.Mark.{Mark}
use Rattle.ep_journal.specs.declared.replica_state.ReplicaState.{ReplicaState}
use Rattle.ep_journal.specs.declared.step_fault.StepFault.{StepFault}
use Rattle.ep_journal.specs.declared.taken.Taken.{Taken}

-- the replica that the parts are
abbrev pub standing_of : ReplicaState → Standing
standing_of p = stands p.me p.space p.lead p.executed.list p.store

-- A step.

abbrev pub MarkedBy : (Mark → Type 0) → Option Mark → Type 0
MarkedBy P None = ⊥
MarkedBy P (Some m) = P m

-- the entry of an event so marked, of which this came
abbrev pub entry_by : Mark → Happening → Taken → Entry
entry_by mark event t = record { number = mark.number; stamp = mark.stamp; event = event; frames = t.frames; done = t.done }

-- what comes of an event: its step, where there is a mark; or why there is none, and the replica is as it was
abbrev pub Steps : Standing → Happening → Option Mark → Result Taken StepFault → Standing → Type 0
Steps s event mark (Ok t) s' = MarkedBy (λ m. Advances s m event (entry_by m event t) s') mark
Steps s event mark (Err fault) s' = IsRefused s event mark fault × (s' ≡ s)

-- The screen.

-- the fault names the screen's reason
abbrev pub IsScreened : Option Refusal → StepFault → Type 0
IsScreened o fault = (why : Refusal) × (o ≡ Some why) × (named fault ≡ Some why)

-- the version has the event, and the screen lets it through
pub record IsLet (s : Standing) (event : Happening) : Type 0 where
  pub readable : IsReadable event
  pub versioned : lacking s.version event ≡ None
  pub unscreened : screened s.faults s.me (event_of event) ≡ None

-- What is asked.

-- the instance, and what changes there
abbrev pub asked_of : ReplicaState → ℕ → Input → Result (ℕ × Change) Refusal
asked_of p i input = at i (outcome_at (view_of p.me p.space p.lead i) input)

-- the same of a frame's message
abbrev pub heard_of : ReplicaState → ℕ → List ℕ → Result (ℕ × Change) Refusal
heard_of p i b = at i (handled_at (view_of p.me p.space p.lead i) (sender_at b) (message_at b))

-- what changes at an instance where what was voted for is committed
abbrev pub settling_at : ReplicaState → ℕ → Change
settling_at p i = settling (view_of p.me p.space p.lead i)

-- the event is let through, asks this of an instance and executes nothing
pub record IsAsked (s : Standing) (event : Happening) (r : Result (ℕ × Change) Refusal) : Type 0 where
  pub through : IsLet s event
  pub room : HasRoom s.version s.me s.state (event_of event)
  pub asked : acts s.faults s.me s.state (event_of event) ≡ r
  pub executes : Executes s.state (event_of event) []

-- the change took place, and its messages are written in this version as those of the entry so marked
abbrev pub Acted : Result (ℕ × Change) Refusal → Version → ℕ → Mark → State → State → List (List ℕ) → Type 0
Acted (Ok p) v me mark s s' out = (s' ≡ changed s p.0 p.1) × AreSpelled v mark.number mark.stamp 0 out (sent_from me p.1.out)
Acted (Err e) v me mark s s' out = ⊥

-- a step of the protocol, which executes nothing, and writes these frames
pub record Moves (r : Result (ℕ × Change) Refusal) (mark : Mark) (p : ReplicaState) (t : Taken) (p' : ReplicaState) : Type 0 where
  pub me : p'.me ≡ p.me
  pub faults : p'.space.faults ≡ p.space.faults
  pub version : p'.space.version ≡ p.space.version
  pub acted : Acted r p.space.version p.me mark (known p.space p.lead) (known p'.space p'.lead) t.frames
  pub none : t.done ≡ []
  pub executed : p'.executed.list ≡ p.executed.list
  pub store : p'.store ≡ p.store
