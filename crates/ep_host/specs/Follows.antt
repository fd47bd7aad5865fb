-- What turns leave of a node.
use Rattle.std.specs.Prelude.{◌≡◌, ℕ, ◌+◌, ◌-◌, ◌<◌, ◌≤◌, Bool, true, false, List, [], ◌++◌, length, slice_index_or}
use Rattle.ep_rules.specs.Journals.{asked_in}
use Rattle.ep_journal.specs.Entries.{entries_of, frames_of}
use Rattle.ep_journal.specs.declared.entry.Entry.{Entry}
use Rattle.ep_replica.specs.Kept.{start_of}
use Rattle.ep_host.specs.Fates.{Fate, frames_in, lost_in, Carries, counted_up}
use Rattle.ep_host.specs.Node.{Node}
use Rattle.ep_host.specs.Pointwise.{Each}
use Rattle.ep_host.specs.Tasks.{Use, tasks_in, events_in, refusals_in, place_after}

-- the same replica's node with more entries
pub record Works (a b : Node) : Type 0 where
  pub faults : b.replica.faults ≡ a.replica.faults
  pub me : b.replica.me ≡ a.replica.me
  pub start : start_of b.replica ≡ start_of a.replica
  pub entries : List Entry
  pub journal : b.replica.entries ≡ a.replica.entries ++ entries
  -- tasks from the agenda's head on are used up: each made its entry or was refused, in order
  pub used : List Use
  pub agenda : a.agenda ≡ tasks_in used ++ b.agenda
  pub asked : asked_in (entries_of entries) ≡ events_in used
  pub refused : b.refused ≡ a.refused ++ refusals_in a.used used
  pub place : b.used ≡ place_after a.used used

-- what turns leave: the same, and what became of each frame out of the entries, in order
pub record Follows (a b : Node) : Type 0 where
  pub works : Works a b
  pub fates : List Fate
  pub frames : frames_in fates ≡ frames_of works.entries
  pub rings : Each (Carries a.weather fates) a.links b.links
  pub weather : b.weather ≡ a.weather
  -- so many frames that were taken are lost, when out of memory
  pub dropped : ℕ
  pub lost : b.lost ≡ counted_up a.lost (lost_in fates + dropped)

abbrev pub HasEnded : Node → Type 0
HasEnded n = n.agenda ≡ []

-- what turns of a section leave: a node that has ended has an empty agenda
pub record Runs (a b : Node) : Type 0 where
  pub follows : Follows a b
  pub ended : b.ended ≡ true → HasEnded b

-- the node at this place is the first that hasn't ended
pub record IsFirstUnended (nodes : List Node) (place : ℕ) : Type 0 where
  pub low : place < length nodes
  pub left : (d : Node) → (slice_index_or nodes place d).ended ≡ false
  pub ended : (i : ℕ) (d : Node) → i < place → (slice_index_or nodes i d).ended ≡ true

-- the node at this place is the first that hasn't ended: those before it have, with empty agendas
pub record IsFirstLeft (nodes : List Node) (place : ℕ) : Type 0 where
  pub left : (d : Node) → (slice_index_or nodes place d).ended ≡ false
  pub ended : (i : ℕ) (d : Node) → i < place → (slice_index_or nodes i d).ended ≡ true
  pub empty : (i : ℕ) (d : Node) → i < place → HasEnded (slice_index_or nodes i d)

-- what rounds leave: the agenda has lost as many tasks as there were rounds at least, or all
pub record Settles (rounds : ℕ) (a b : Node) : Type 0 where
  pub follows : Follows a b
  pub agenda : length b.agenda ≤ length a.agenda - rounds

-- a round with one turn of the node: where nothing moved, its agenda was empty
pub record Rounds (moved : Bool) (a b : Node) : Type 0 where
  pub turn : Settles 1 a b
  pub idle : moved ≡ false → (rounds : ℕ) → Settles rounds a b
