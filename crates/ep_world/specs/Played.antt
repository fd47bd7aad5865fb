-- A world of replicas: their journals, and in which order it played their entries.
use Rattle.std.specs.Prelude.{◌≡◌, ℕ, zero, suc, List, [], ◌∷◌, Option, Some, None, refl, slice_get}
use Rattle.std.specs.Coded.{Coded, code_by, coded×, coded_ℕ, coded_list}
use Rattle.ep_base.specs.contracts.version.Version as version_facts
use Rattle.ep_base.specs.declared.version.Version.{Version}
use Rattle.ep_rules.specs.Journals as rules
use Rattle.ep_rules.specs.Journals.{Scheduled, of, acts_of, ArePlayed, AreClocked, frames_of, messages_of}
use Rattle.ep_rules.specs.Steps.{Frame}
use Rattle.ep_rules.specs.Worlds.{opening, IsRun, ends}
use Rattle.ep_journal.specs.Entries.{Collected, entries_at, journals_of, AreJournals, frame_in}
use Rattle.ep_journal.specs.contracts.entry.Entry as entry_facts
use Rattle.ep_journal.specs.declared.entry.Entry.{Entry}
use Rattle.ep_journal.specs.Openings.{Opening, opening_code, opens}
use Rattle.ep_replica.specs.Kept.{Kept}
use Rattle.ep_world.specs.contracts.place.Place as place_facts
use Rattle.ep_world.specs.declared.place.Place.{Place}

pub record Played : Type 0 where
  -- the version of all replicas
  pub version : Version
  -- how many replicas may fail
  pub faults : ℕ
  -- what all of them opened with
  pub opening : Opening
  -- each replica's entries, in replica order
  pub entries : List (List Entry)
  -- replica and entry number of each step, in the order played
  pub steps : List (ℕ × ℕ)
  -- where each message stands, in the order sent
  pub messages : List Place

abbrev pub played_code : Coded Played
played_code =
    code_by (Version × (ℕ × (Opening × (List (List Entry) × (List (ℕ × ℕ) × List Place)))))
    (coded× version_facts.the_row.coded (coded× coded_ℕ (coded× opening_code (coded× (coded_list (coded_list entry_facts.the_row.coded)) (coded× (coded_list (coded× coded_ℕ coded_ℕ)) (coded_list place_facts.the_row.coded))))))
    (λ w. (w.version, (w.faults, (w.opening, (w.entries, (w.steps, w.messages))))))
    (λ p. record { version = p.0; faults = p.1.0; opening = p.1.1.0; entries = p.1.1.1.0; steps = p.1.1.1.1.0; messages = p.1.1.1.1.1 }) (λ _. refl)

-- the journals
abbrev pub collected : Played → Collected
collected w = record { version = w.version; faults = w.faults; opening = w.opening; entries = w.entries }

-- the same as the rule book sees them
abbrev pub journals_in : Played → rules.Journals
journals_in w = journals_of (collected w)

-- the entries of r; none where it is no replica
abbrev pub entries_in : Played → ℕ → List Entry
entries_in w r = entries_at (collected w) r

abbrev pub replica_in : Played → ℕ → Kept
replica_in w r = record { version = w.version; faults = w.faults; me = r; opening = w.opening; entries = entries_in w r }

-- Messages, numbered from 1.

-- the thing of this number, from 1
abbrev pub numbered : {X : Type 0} → List X → ℕ → Option X
numbered xs zero = None
numbered xs (suc n) = slice_get xs n

abbrev pub frame_at_place : Played → Option Place → Option (List ℕ)
frame_at_place w None = None
frame_at_place w (Some p) = frame_in (numbered (entries_in w p.replica) p.entry) p.out

-- the frame of message m: the one out of the entry that its place names
abbrev pub message_in : Played → ℕ → Option (List ℕ)
message_in w m = frame_at_place w (numbered w.messages m)

-- What a world shows of its schedule.

abbrev pub steps_of : List Scheduled → List (ℕ × ℕ)
steps_of [] = []
steps_of (a ∷ schedule) = (a.replica, a.entry.number) ∷ steps_of schedule

abbrev pub places_of : List Frame → List Place
places_of [] = []
places_of (m ∷ ms) = record { replica = m.sent.from; entry = m.entry; out = m.place } ∷ places_of ms

-- the world played these entries, in this order, each handling a frame that an earlier one sent
pub record Shows (w : Played) (schedule : List Scheduled) : Type 0 where
  pub journals : (r : ℕ) → of r schedule ≡ journals_in w r
  pub steps : w.steps ≡ steps_of schedule
  pub messages : w.messages ≡ places_of (frames_of schedule)
  pub played : ArePlayed w.faults (opening (opens w.opening)) [] schedule

-- the world is a run of the protocol: that of the entries that its steps name, in order; its messages are all that the run sent, in order of sending
pub record IsPlayed (w : Played) : Type 0 where
  pub schedule : List Scheduled
  pub shows : Shows w schedule
  pub run : IsRun w.faults (opening (opens w.opening)) (acts_of schedule)
  pub sent : messages_of (frames_of schedule) ≡ (ends w.faults (opening (opens w.opening)) (acts_of schedule)).sent

-- all that a world keeps to
pub record IsWorld (w : Played) : Type 0 where
  pub schedule : List Scheduled
  pub shows : Shows w schedule
  pub journals : AreJournals (collected w)
  pub clocked : (r : ℕ) → AreClocked w.opening.base_stamp (journals_in w r)
