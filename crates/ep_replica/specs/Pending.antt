-- What a replica may execute of its own, and what it executes next.
use Rattle.std.specs.Prelude.{◌≡◌, ◌⊎◌, ℕ, ◌<◌, ◌+◌, Bool, true, false, Option, Some, None, Result, Ok, Err}
use Rattle.ep_base.specs.Instances.{instance_of, leader_of, IsInstance}
use Rattle.ep_base.specs.Places.{Has}
use Rattle.ep_base.specs.declared.decree.Decree.{Decree}
use Rattle.ep_rules.specs.Graph.{Reaches}
use Rattle.ep_rules.specs.States.{State, committed_in, graph_in, free_number}
use Rattle.ep_journal.specs.declared.entry.Entry.{Entry}
use Rattle.ep_journal.specs.declared.event.Event.{Event as Happening}
use Rattle.ep_journal.specs.declared.event.Event.TheVariants.{Execute}
use Rattle.ep_journal.specs.declared.step_fault.StepFault.{StepFault}
use Rattle.ep_journal.specs.declared.step_fault.StepFault.TheVariants.{Memory, StampFull}
use Rattle.ep_journal.specs.Leaving.{state_left}
use Rattle.ep_replica.specs.Applied.{Applied, IsDeclined}
use Rattle.ep_replica.specs.Kept.{Kept}
use Rattle.ep_replica.specs.declared.pending.Attempt.{Attempt}
use Rattle.ep_replica.specs.declared.pending.Attempt.TheVariants.{Executed, Passed, Refused, Full}
use Rattle.ep_space.specs.Open.{IsAbove}

-- the state that the replica's journal leaves
abbrev pub state_of : Kept → State
state_of k = state_left k.opening k.faults k.me k.entries

-- an own instance that is committed and not executed
pub record IsPending (k : Kept) (i : ℕ) : Type 0 where
  pub named : IsInstance i
  pub own : leader_of i ≡ k.me
  pub decree : Decree
  pub committed : committed_in (state_of k).records i ≡ Some decree
  pub left : ¬ Has (state_of k).executed i

-- the instance waits for one that isn't committed
abbrev pub IsWaiting : Kept → ℕ → Type 0
IsWaiting k i = (j : ℕ) × Reaches (graph_in (state_of k).records) i j × (graph_in (state_of k).records j ≡ None)

-- its execution is refused when out of memory or a full stamp
abbrev pub IsShort : Kept → ℕ → Type 0
IsShort k i = (fault : StepFault) × IsDeclined k (Execute i) fault × ((fault ≡ Memory) ⊎ (fault ≡ StampFull))

-- the least pending instance above this one, or none
abbrev pub IsNext : Kept → Option ℕ → Option ℕ → Type 0
IsNext k after None = (j : ℕ) → IsPending k j → ¬ IsAbove after j
IsNext k after (Some i) = IsPending k i × IsAbove after i × ((j : ℕ) → IsPending k j → IsAbove after j → ¬ (j < i))

-- a try to execute an instance: it was executed; or it isn't pending or waits; or it was refused, when out of memory or a full stamp
abbrev pub Tries : Kept → ℕ → Attempt → Kept → Type 0
Tries k i Executed k' = IsPending k i × ((e : Entry) × Applied k (Execute i) e k')
Tries k i Passed k' = (IsPending k i → IsWaiting k i) × (k' ≡ k)
Tries k i Refused k' = IsPending k i × IsDeclined k (Execute i) Memory × (k' ≡ k)
Tries k i Full k' = IsPending k i × IsDeclined k (Execute i) StampFull × (k' ≡ k)

-- each lesser pending instance waits
abbrev pub LesserWait : Kept → ℕ → Type 0
LesserWait k i = (j : ℕ) → IsPending k j → j < i → IsWaiting k j

-- the least pending instance that doesn't wait was executed; or nothing was: each of them waits, or one was refused when out of memory or a full stamp
abbrev pub ExecutesNext : Kept → Bool → Kept → Type 0
ExecutesNext k true k' = (i : ℕ) × IsPending k i × ((e : Entry) × Applied k (Execute i) e k') × LesserWait k i
ExecutesNext k false k' = (((j : ℕ) → IsPending k j → IsWaiting k j) ⊎ ((i : ℕ) × IsPending k i × IsShort k i × LesserWait k i)) × (k' ≡ k)

-- the least pending instance that may not wait is refused, when out of memory or a full stamp
abbrev pub IsHeldUp : Kept → StepFault → Type 0
IsHeldUp k fault = (i : ℕ) × IsPending k i × IsDeclined k (Execute i) fault × ((fault ≡ Memory) ⊎ (fault ≡ StampFull)) × LesserWait k i

-- the same, distinguished: the least was executed; or each waits; or it was refused
abbrev pub TriesNext : Kept → Result Bool StepFault → Kept → Type 0
TriesNext k (Ok true) k' = ExecutesNext k true k'
TriesNext k (Ok false) k' = ((j : ℕ) → IsPending k j → IsWaiting k j) × (k' ≡ k)
TriesNext k (Err fault) k' = IsHeldUp k fault × (k' ≡ k)

-- the event's entry proposes a command as instance i, the least own one that was free
pub record Submits (k : Kept) (event : Happening) (i : ℕ) (k' : Kept) : Type 0 where
  pub entry : Entry
  pub applied : Applied k event entry k'
  pub number : ℕ
  pub free : free_number (state_of k).records k.me ≡ Some number
  pub instance : i ≡ instance_of k.me (number + 1)
