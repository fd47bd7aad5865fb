-- What a node takes, and why it takes nothing.
use Rattle.std.specs.Prelude.{◌≡◌, ℕ, Bool, true, false, List, length, Option, Some, None, Ok}
use Rattle.ep_frame.specs.Spelling.{IsFrame}
use Rattle.ep_journal.specs.declared.event.Event.{Event as Happening}
use Rattle.ep_journal.specs.declared.event.Event.TheVariants.{Handle}
use Rattle.ep_journal.specs.declared.step_fault.StepFault.TheVariants.{Memory}
use Rattle.ep_replica.specs.Pending.{IsHeldUp, TriesNext}
use Rattle.ep_serve.specs.Acting.{ExecutesAll, ExecutesSo, StopsShort, TakesNear}
use Rattle.ep_serve.specs.declared.pending_answer.PendingAnswer.{PendingAnswer}
use Rattle.ep_serve.specs.declared.pending_answer.PendingAnswer.TheVariants as due
use Rattle.ep_journal.specs.declared.refusal.Refusal.{Refusal}
use Rattle.ep_journal.specs.declared.refusal.Refusal.TheVariants.{BadFrame, NoSuchMessage, Step}
use Rattle.ep_embedded.specs.Hosting.{Hosting, with_replica}
use Rattle.ep_embedded.specs.declared.taking_fault.TakingFault.{TakingFault}
use Rattle.ep_embedded.specs.declared.taking_fault.TakingFault.TheVariants.{Lent, Refused}

-- the log has begun, and only the replica changes: what is lent stays so
pub record Moves (h h' : Hosting) : Type 0 where
  pub begun : h.is_anew ≡ false
  pub rest : h' ≡ with_replica h h'.node.replica

-- the whole log is lent anew, and nothing changes
pub record IsBusy (h h' : Hosting) : Type 0 where
  pub anew : h.is_anew ≡ true
  pub same : h' ≡ h

-- why an event was refused, where that is the answer
abbrev pub refusal_of : PendingAnswer → Option Refusal
refusal_of (due.Taken from count) = None
refusal_of (due.Refused refusal) = Some refusal
refusal_of (due.Value key) = None
refusal_of (due.Open after) = None
refusal_of (due.Leads i) = None
refusal_of due.Synced = None
refusal_of due.State = None
refusal_of (due.Ready after most) = None
refusal_of (due.Handled r) = None
refusal_of (due.Interfering key) = None
refusal_of (due.Read key found) = None
refusal_of (due.Malformed m) = None

-- the event's step was taken, the next entry, whose client has seen no stamp too far ahead
abbrev pub HasTaken : Hosting → Happening → Hosting → Type 0
HasTaken h event h' = Moves h h' × TakesNear h.node.replica event (due.Taken (length h.node.replica.entries) 1) h'.node.replica

-- why it wasn't, and nothing changed
abbrev pub IsNotTaken : Hosting → Happening → TakingFault → Hosting → Type 0
IsNotTaken h event Lent h' = IsBusy h h'
IsNotTaken h event (Refused refusal) h' = (h.is_anew ≡ false) × TakesNear h.node.replica event (due.Refused refusal) h.node.replica × (h' ≡ h)

-- why the bytes weren't handled: they are no frame, or why the frame wasn't taken
abbrev pub IsUnheard : Hosting → List ℕ → TakingFault → Hosting → Type 0
IsUnheard h bytes Lent h' = IsBusy h h'
IsUnheard h bytes (Refused BadFrame) h' = (h.is_anew ≡ false) × (¬ IsFrame bytes) × (h' ≡ h)
IsUnheard h bytes (Refused (NoSuchMessage message)) h' = ⊥
IsUnheard h bytes (Refused (Step fault)) h' = IsNotTaken h (Handle bytes) (Refused (Step fault)) h'

-- Executing own instances.

-- the least that is ready was executed, or none is ready
abbrev pub HasExecuted : Hosting → Bool → Hosting → Type 0
HasExecuted h executed h' = Moves h h' × TriesNext h.node.replica (Ok executed) h'.node.replica

-- why none was, and nothing changed
abbrev pub IsNotExecuted : Hosting → TakingFault → Hosting → Type 0
IsNotExecuted h Lent h' = IsBusy h h'
IsNotExecuted h (Refused BadFrame) h' = ⊥
IsNotExecuted h (Refused (NoSuchMessage message)) h' = ⊥
IsNotExecuted h (Refused (Step fault)) h' = (h.is_anew ≡ false) × IsHeldUp h.node.replica fault × (h' ≡ h)

-- all that were ready were executed, and then none is
abbrev pub HasAdvanced : Hosting → Hosting → Type 0
HasAdvanced h h' = Moves h h' × ((times : ℕ) × ExecutesSo times h.node.replica h'.node.replica × TriesNext h'.node.replica (Ok false) h'.node.replica)

-- some were executed, and the next one was refused, when out of memory or a full stamp
abbrev pub HasStopped : Hosting → TakingFault → Hosting → Type 0
HasStopped h Lent h' = IsBusy h h'
HasStopped h (Refused BadFrame) h' = ⊥
HasStopped h (Refused (NoSuchMessage message)) h' = ⊥
HasStopped h (Refused (Step fault)) h' = Moves h h' × ((times : ℕ) × ExecutesSo times h.node.replica h'.node.replica × IsHeldUp h'.node.replica fault)

-- Executing all instances that are ready.

abbrev pub HasSwept : Hosting → Hosting → Type 0
HasSwept h h' = Moves h h' × ((reported : PendingAnswer) × ExecutesAll h.node.replica reported h'.node.replica)

-- some were executed, each in its turn, and for the next one memory was wanted
abbrev pub HasLeftOff : Hosting → TakingFault → Hosting → Type 0
HasLeftOff h Lent h' = IsBusy h h'
HasLeftOff h (Refused BadFrame) h' = ⊥
HasLeftOff h (Refused (NoSuchMessage message)) h' = ⊥
HasLeftOff h (Refused (Step fault)) h' = Moves h h' × (fault ≡ Memory) × StopsShort h.node.replica h'.node.replica
