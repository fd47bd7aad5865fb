-- The ranges of the fields that all kinds of frame have.
use Rattle.std.specs.Prelude.{ℕ, ◌≡◌, ◌≤◌, List, length, true}
use Rattle.ep_base.specs.Instances.{highest_number}
use Rattle.ep_base.specs.Ballots.{highest_counter}
use Rattle.ep_frame.specs.Faults.{has_attributes, are_deps}
use Rattle.ep_frame.specs.Spelling.{FrameParts}
use Rattle.ep_base.specs.CommandParts.{are_parts}
use Rattle.ep_frame.specs.Meaning.{command_parts_of}
use Rattle.ep_frame.specs.Fields.{number_at}

pub record InRange (b : List ℕ) : Type 0 where
  pub long : 40 ≤ length b
  pub sender : number_at 4 1 b ≤ 6
  pub receiver : number_at 5 1 b ≤ 6
  pub entry : 1 ≤ number_at 8 4 b
  pub stamp_low : 1 ≤ number_at 12 8 b
  pub stamp_high : number_at 12 8 b ≤ 281474976710655
  pub leader : number_at 20 1 b ≤ 6
  pub number_low : 1 ≤ number_at 21 2 b
  pub number_high : number_at 21 2 b ≤ highest_number

-- what is known of the parts of a frame without a fault
pub record Readable (p : FrameParts) : Type 0 where
  pub leader : p.header.leader ≤ 6
  pub number_low : 1 ≤ p.header.number
  pub number_high : p.header.number ≤ highest_number
  pub counter : p.header.counter ≤ highest_counter
  pub replica : p.header.replica ≤ 6
  pub other_counter : p.header.other_counter ≤ highest_counter
  pub other_replica : p.header.other_replica ≤ 6
  pub seq_low : has_attributes p.header ≡ true → 1 ≤ p.header.seq
  pub seq_high : has_attributes p.header ≡ true → p.header.seq ≤ 1000000
  pub command : are_parts (command_parts_of p) ≡ true
  pub deps : are_deps p.deps ≡ true
