-- What a call on a host gives. A lock hides which state a replica is in, so it is said of some replica's journal. The version and the opening are the host's.
use Rattle.std.specs.Prelude.{◌≡◌, ℕ, ◌<◌, ◌≤◌, Bool, true, false, List, Option, Some, IfSome}
use Rattle.ep_base.specs.Instances.{leader_of}
use Rattle.ep_base.specs.Quorums.{size}
use Rattle.ep_base.specs.Versions.{version_number}
use Rattle.ep_base.specs.declared.version.Version.{Version}
use Rattle.ep_journal.specs.Entries.{entries_of, IsJournal}
use Rattle.ep_journal.specs.declared.entry.Entry.{Entry}
use Rattle.ep_journal.specs.declared.event.Event.{Event}
use Rattle.ep_journal.specs.declared.step_fault.StepFault.{StepFault}
use Rattle.ep_frame.specs.Meaning.{version_at}
use Rattle.ep_journal.specs.Openings.{Opening, OpensIn, opens}
use Rattle.ep_replica.specs.Applied.{Applied, IsDeclined}
use Rattle.ep_replica.specs.Kept.{Kept, start_of}
use Rattle.ep_replica.specs.Pending.{Submits}
use Rattle.ep_replica.specs.Receipts.{outcome_of, receipts_after}
use Rattle.ep_rules.specs.Verdicts.{IsOwn}
use Rattle.ep_rules.specs.declared.receipt.Receipt.{Receipt}
use Rattle.ep_host.specs.Tending.{Tends}
use Rattle.ep_host.specs.declared.host_fault.HostFault.{HostFault}
use Rattle.ep_host.specs.declared.host_fault.HostFault.TheVariants.{Memory, OutOfRange, Replica}
use Rattle.ep_host.specs.declared.tended.Tended.{Tended}
use Rattle.ep_host.specs.declared.turn.Turn.{Turn}
use Rattle.ep_host.specs.declared.turn.Turn.TheVariants.{Moved, Idle}

-- a replica's journal, which starts so: of this version, which is 2 or a generation, and with this opening
pub record IsKept (s : Version × Opening) (k : Kept) : Type 0 where
  pub start : start_of k ≡ s
  pub known : 2 ≤ version_number s.0
  pub opens : OpensIn s.0 s.1
  pub journal : IsJournal s.0 s.1 k.faults k.me k.entries

-- some replica took the event
pub record IsTaken (s : Version × Opening) (event : Event) : Type 0 where
  pub old : Kept
  pub new : Kept
  pub run : IsKept s old
  pub entry : Entry
  pub applied : Applied old event entry new

-- some replica took the event, and its entry proposes this instance
pub record IsSubmitted (s : Version × Opening) (event : Event) (i : ℕ) : Type 0 where
  pub old : Kept
  pub new : Kept
  pub run : IsKept s old
  pub submits : Submits old event i new

-- what came of a pump
abbrev pub turn_of : Bool → Turn
turn_of true = Moved
turn_of false = Idle

-- some replica was tended, with a frame of its version or none
pub record IsPumped (s : Version × Opening) (turn : Turn) : Type 0 where
  pub old : Kept
  pub new : Kept
  pub run : IsKept s old
  pub given : Option (List ℕ)
  pub versioned : IfSome given (λ (b : List ℕ). version_at b ≡ s.0)
  pub tended : Tended
  pub tends : Tends given old new tended
  pub reported : turn ≡ turn_of tended.moved

-- some replica declined the event for this reason
pub record IsDeclinedThere (s : Version × Opening) (event : Event) (fault : StepFault) : Type 0 where
  pub kept : Kept
  pub run : IsKept s kept
  pub declined : IsDeclined kept event fault

-- why an event was not taken: there is no such replica in the cluster; or there is, and it declined the event
abbrev pub IsRefused : Version × Opening → ℕ → ℕ → Event → HostFault → Type 0
IsRefused s f r event Memory = ⊥
IsRefused s f r event OutOfRange = size f ≤ r
IsRefused s f r event (Replica fault) = (r < size f) × IsDeclinedThere s event fault

-- why no receipts are given: out of memory, or there is no such replica in the cluster
abbrev pub IsUnreported : ℕ → ℕ → HostFault → Type 0
IsUnreported f r Memory = r < size f
IsUnreported f r OutOfRange = size f ≤ r
IsUnreported f r (Replica fault) = ⊥

-- the receipts that some replica's journal gives after the entry
pub record AreReported (s : Version × Opening) (entry : ℕ) (receipts : List Receipt) : Type 0 where
  pub kept : Kept
  pub run : IsKept s kept
  pub exact : receipts ≡ receipts_after kept.me entry (entries_of kept.entries)

-- the receipt of the instance's first execution by the replica that leads it, which also proposed it
pub record IsOutcome (s : Version × Opening) (i : ℕ) (t : Receipt) : Type 0 where
  pub kept : Kept
  pub run : IsKept s kept
  pub instance : t.instance ≡ i
  pub own : IsOwn (opens s.1) kept.faults kept.me (entries_of kept.entries) t
  pub first : outcome_of kept.me (entries_of kept.entries) i ≡ Some t

-- the same, of an instance that a replica of the cluster leads
abbrev pub IsOutcomeIn : Version × Opening → ℕ → ℕ → Receipt → Type 0
IsOutcomeIn s f i t = (leader_of i < size f) × IsOutcome s i t
