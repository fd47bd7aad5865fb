-- tools/generate writes this file, from crates/ep_rules/specs/Journals.antt.
-- Journals: entries, local runs, what was asked, matched journals, and their schedule.
use Rattle.std.specs.Prelude.{◌≡◌, ◌⊎◌, ℕ, suc, ◌+◌, ◌<◌, ◌≤◌, max, eqb, cond, List, [], ◌∷◌, ◌++◌, Some, slice_get}
use Rattle.ep_base.specs.Quorums.{size}
use Rattle.ep_base.specs.declared.reply.Answer.{Answer}
use Rattle.ep_laws.specs.Rows.States.{State, fresh_state}
use Rattle.ep_laws.specs.Rows.Steps.{Sent, Frame, Event, Propose, Handle, GiveUp, Recover, Execute, IsStep, leaves, sends}
use Rattle.ep_laws.specs.Rows.Worlds.{World, Act, In, moved}
use Rattle.ep_laws.specs.Rows.OneMap.{Store}

-- an event that a replica took: its number and stamp, what it sent, and what it executed, with the answers
pub record Entry : Type 0 where
  pub number : ℕ
  pub stamp : ℕ
  pub event : Event
  pub out : List Frame
  pub done : List (ℕ × Answer)

abbrev pub messages_of : List Frame → List Sent
messages_of [] = []
messages_of (m ∷ ms) = m.sent ∷ messages_of ms

-- Local runs.

-- the entry is a step from the state s, and sends what the step sends
pub record IsEntry (f me : ℕ) (s : State) (e : Entry) : Type 0 where
  pub step : IsStep f me s e.event e.done
  pub sent : messages_of e.out ≡ sends f me s e.event

-- each entry is the step from the state that the earlier ones leave
abbrev pub AreSteps : ℕ → ℕ → State → List Entry → Type 0
AreSteps f me s [] = Unit {0}
AreSteps f me s (e ∷ es) = IsEntry f me s e × AreSteps f me (leaves f me s e.event e.done) es

-- the state that entries leave
abbrev pub left : ℕ → ℕ → State → List Entry → State
left f me s [] = s
left f me s (e ∷ es) = left f me (leaves f me s e.event e.done) es

-- what an entry sends bears its number and stamp, and is counted from k
abbrev pub AreMarked : Entry → ℕ → List Frame → Type 0
AreMarked e k [] = Unit {0}
AreMarked e k (m ∷ ms) = (m.entry ≡ e.number) × (m.place ≡ k) × (m.stamp ≡ e.stamp) × AreMarked e (suc k) ms

-- entries numbered from n on, whose stamps rise above the last one
abbrev pub AreNumbered : ℕ → ℕ → List Entry → Type 0
AreNumbered n last [] = Unit {0}
AreNumbered n last (e ∷ es) = (e.number ≡ n) × (last < e.stamp) × AreMarked e 0 e.out × AreNumbered (suc n) e.stamp es

abbrev pub IsLocalRun : (base : Store) → ℕ → ℕ → List Entry → Type 0
IsLocalRun base f me es = AreNumbered 1 0 es × AreSteps f me (fresh_state base) es

-- the stamp of the last entry, or this one where there is none
abbrev pub stamp_after : ℕ → List Entry → ℕ
stamp_after last [] = last
stamp_after last (e ∷ es) = stamp_after e.stamp es

-- the stamp of the last entry, or 0
abbrev pub last_stamp : List Entry → ℕ
last_stamp es = stamp_after 0 es

-- the stamp that an event names
abbrev pub heard : Event → ℕ
heard (Propose client request c seen spared) = seen
heard (Handle m) = m.stamp
heard (GiveUp i) = 0
heard (Recover i) = 0
heard (Execute root) = 0

-- each stamp is one more than the greatest one that was known
abbrev pub AreClocked : ℕ → List Entry → Type 0
AreClocked last [] = Unit {0}
AreClocked last (e ∷ es) = (e.stamp ≡ 1 + max last (heard e.event)) × AreClocked e.stamp es

-- What was asked.

-- an event that neither handles nor executes was asked
abbrev pub asked_by : Event → List Event
asked_by (Propose client request c seen spared) = Propose client request c seen spared ∷ []
asked_by (Handle m) = []
asked_by (GiveUp i) = GiveUp i ∷ []
asked_by (Recover i) = Recover i ∷ []
asked_by (Execute root) = []

-- what was asked in entries, in their order
abbrev pub asked_in : List Entry → List Event
asked_in [] = []
asked_in (e ∷ es) = asked_by e.event ++ asked_in es

-- Matched journals.

-- the replicas' journals; a replica that is none has the empty one
abbrev pub Journals : Type 0
Journals = ℕ → List Entry

pub record AreLocalRuns (base : Store) (f : ℕ) (journal : Journals) : Type 0 where
  pub local : (r : ℕ) → IsLocalRun base f r (journal r)
  pub others : (r : ℕ) → size f ≤ r → journal r ≡ []

-- the frame stands where its sender, entry and place say
pub record WasSent (journal : Journals) (m : Frame) : Type 0 where
  pub entry : Entry
  pub stands : In entry (journal m.sent.from)
  pub number : entry.number ≡ m.entry
  pub frame : slice_get entry.out m.place ≡ Some m

-- each handled frame was sent, by an entry of a lower stamp
abbrev pub IsMatched : Journals → Type 0
IsMatched journal = (r : ℕ) (e : Entry) (m : Frame) → In e (journal r) → e.event ≡ Handle m → WasSent journal m × (m.stamp < e.stamp)

-- The schedule.

-- an entry at its replica
pub record Scheduled : Type 0 where
  pub replica : ℕ
  pub entry : Entry

abbrev pub of : ℕ → List Scheduled → List Entry
of r [] = []
of r (a ∷ schedule) = cond (eqb a.replica r) (a.entry ∷ of r schedule) (of r schedule)

abbrev pub Precedes : Scheduled → Scheduled → Type 0
Precedes a b = (a.entry.stamp < b.entry.stamp) ⊎ ((a.entry.stamp ≡ b.entry.stamp) × (a.replica < b.replica))

abbrev pub Rises : List Scheduled → Type 0
Rises [] = Unit {0}
Rises (a ∷ schedule) = ((b : Scheduled) → In b schedule → Precedes a b) × Rises schedule

-- all entries of all journals, by stamp and replica
abbrev pub IsSchedule : Journals → List Scheduled → Type 0
IsSchedule journal schedule = ((r : ℕ) → of r schedule ≡ journal r) × Rises schedule

-- the acts of a world that a schedule names
abbrev pub act_of : Scheduled → Act
act_of a = record { replica = a.replica; event = a.entry.event; done = a.entry.done }

abbrev pub acts_of : List Scheduled → List Act
acts_of [] = []
acts_of (a ∷ schedule) = act_of a ∷ acts_of schedule

-- What a world of replicas plays: entries, each at its replica, with the frames that were sent so far.

-- what an event handles is among the frames
abbrev pub IsAmong : List Frame → Event → Type 0
IsAmong frames (Propose client request c seen spared) = Unit {0}
IsAmong frames (Handle m) = In m frames
IsAmong frames (GiveUp i) = Unit {0}
IsAmong frames (Recover i) = Unit {0}
IsAmong frames (Execute root) = Unit {0}

-- the entry is a step of its replica, and handles one of the frames
pub record Plays (f : ℕ) (w : World) (frames : List Frame) (a : Scheduled) : Type 0 where
  pub replica : a.replica < size f
  pub entry : IsEntry f a.replica (w.states a.replica) a.entry
  pub among : IsAmong frames a.entry.event

-- each entry is played from the world that the earlier ones leave, after these frames
abbrev pub ArePlayed : ℕ → World → List Frame → List Scheduled → Type 0
ArePlayed f w frames [] = Unit {0}
ArePlayed f w frames (a ∷ schedule) = Plays f w frames a × ArePlayed f (moved f w (act_of a)) (frames ++ a.entry.out) schedule

-- all frames that entries sent, in order of sending
abbrev pub frames_of : List Scheduled → List Frame
frames_of [] = []
frames_of (a ∷ schedule) = a.entry.out ++ frames_of schedule
