-- One event of a replica: the entry that it makes, by the clock, and why there is none.
use Rattle.std.specs.Prelude.{◌≡◌, MatchResult, ℕ, ◌+◌, ◌&&◌, ltb, max, length, cond, Bool, false, List, [], ◌∷◌, ◌++◌, Option, Some, None}
use Rattle.ep_base.specs.declared.version.Version.{Version}
use Rattle.ep_base.specs.declared.version_kind.VersionKind.TheVariants.{V1, V2, V3}
use Rattle.ep_frame.specs.Faults.{fault_of}
use Rattle.ep_rules.specs.Journals.{IsEntry, AreMarked, stamp_after, heard}
use Rattle.ep_journal.specs.Entries.{entry_of, entries_of, AreFrames, IsEntryIn}
use Rattle.ep_journal.specs.Events.{event_of, IsReadable}
use Rattle.ep_journal.specs.Holding.{HasRoom}
use Rattle.ep_journal.specs.Leaving.{standing}
use Rattle.ep_journal.specs.Standing.{IsRefused}
use Rattle.ep_journal.specs.declared.entry.Entry.{Entry}
use Rattle.ep_journal.specs.declared.event.Event.{Event as Happening}
use Rattle.ep_journal.specs.declared.event.Event.TheVariants.{Handle}
use Rattle.ep_journal.specs.declared.mark.Mark.{Mark}
use Rattle.ep_journal.specs.declared.step_fault.StepFault.{StepFault}
use Rattle.ep_replica.specs.Faults.{in_numbers}
use Rattle.ep_replica.specs.Kept.{Kept}
use Rattle.ep_replica.specs.declared.replica_fault.ReplicaFault.{ReplicaFault}
use Rattle.ep_replica.specs.declared.replica_fault.ReplicaFault.TheVariants.{BadFrame}

-- the stamp of its last entry; before any, the one that its clock goes on from
abbrev pub last_of : Kept → ℕ
last_of k = stamp_after k.opening.base_stamp (entries_of k.entries)

-- one more than the greatest stamp that is known: the last one, or what the event names
abbrev pub next_stamp : Kept → Happening → ℕ
next_stamp k event = 1 + max (last_of k) (heard (event_of event))

-- in a generation no stamp leaps: what is named is at most 2^40 above the last one, or one wrong word would end a life and not an event
abbrev pub leaps : Version → ℕ → ℕ → Bool
leaps V1 last reported = false
leaps V2 last reported = false
leaps (V3 g) last reported = ltb (last + 1099511627776) reported

-- the number and the stamp; none where one is past its limit
abbrev pub mark_of : ℕ → ℕ → Option Mark
mark_of number stamp = cond (ltb number 4294967296 && ltb stamp 281474976710656) (Some (record { number = number; stamp = stamp })) None

-- the mark that the clock gives the event's entry; none either where a stamp leaps
abbrev pub mark_after : Kept → Happening → Option Mark
mark_after k event = cond (leaps k.version (last_of k) (heard (event_of event))) None (mark_of (length k.entries + 1) (next_stamp k event))

-- the entry is the event's step from what the journal leaves, numbered next and stamped by the clock, and was appended; no stamp leapt, and a
-- proposal took a number that its version has for it
pub record Applied (k : Kept) (taken : Happening) (e : Entry) (k' : Kept) : Type 0 where
  pub event : e.event ≡ taken
  pub number : e.number ≡ length k.entries + 1
  pub stamp : e.stamp ≡ next_stamp k taken
  pub near : leaps k.version (last_of k) (heard (event_of taken)) ≡ false
  pub step : IsEntry k.faults k.me (standing k).state (entry_of e)
  pub marked : AreMarked (entry_of e) 0 (entry_of e).out
  pub readable : IsReadable e.event
  pub frames : AreFrames e.frames
  pub versioned : IsEntryIn k.version e
  pub room : HasRoom k.version k.me (standing k).state (event_of taken)
  pub appended : k' ≡ record k { entries = k.entries ++ e ∷ [] }

-- why the event was not taken: out of memory, or the first reason, in the order of the step that has the clock's mark
abbrev pub IsDeclined : Kept → Happening → StepFault → Type 0
IsDeclined k event fault = IsRefused (standing k) event (mark_after k event) fault

-- the same, an instance by its two numbers
abbrev pub IsDeclinedFor : Kept → Happening → ReplicaFault → Type 0
IsDeclinedFor k event fault = (why : StepFault) × IsDeclined k event why × (fault ≡ in_numbers why)

-- why the bytes were not handled: they are no frame; or, where they are one, why the frame was not
abbrev pub IsUnhandled : Kept → List ℕ → ReplicaFault → Type 0
IsUnhandled k bytes fault = MatchResult (fault_of bytes) (λ _. IsDeclinedFor k (Handle bytes) fault) (λ f. fault ≡ BadFrame f)
