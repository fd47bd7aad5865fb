-- The sequence numbers of records, by instance.
use Rattle.std.specs.Prelude.{◌≡◌, ℕ, ◌<◌, List, Option, Some, None, length, slice_index_or}
use Rattle.ep_base.specs.Instances.{IsInstance}
use Rattle.ep_rules.specs.InterferenceSet.{seq_of}
use Rattle.ep_rules.specs.Maps.{get}
use Rattle.ep_rules.specs.declared.record.Record.{Record}
use Rattle.ep_space.specs.Entries.{slot}
use Rattle.ep_space.specs.Held.{Held, HasPlace}

-- the sequence number that the record votes for; 0 where there is none
abbrev pub recorded_seq : Option Record → ℕ
recorded_seq None = 0
recorded_seq (Some r) = seq_of r.vote

-- each instance's slot has that of its record, and where it has a place it has a slot
pub record AreSeqs (t : Held Record) (ns : List ℕ) : Type 0 where
  pub reported : (i : ℕ) → IsInstance i → slice_index_or ns (slot i) 0 ≡ recorded_seq (get t.held i)
  pub room : (i : ℕ) → HasPlace t.places i → slot i < length ns
