-- For each replica, a number of its first instances that all have a record.
use Rattle.std.specs.Prelude.{◌≡◌, ◌≢◌, ℕ, ◌+◌, ◌<◌, ◌≤◌, false, List, slice_index_or}
use Rattle.ep_base.specs.Instances.{instance_of, highest_number}
use Rattle.ep_rules.specs.Maps.{Map}
use Rattle.ep_rules.specs.States.{is_free}
use Rattle.ep_rules.specs.declared.record.Record.{Record}

abbrev pub taken_by : List ℕ → ℕ → ℕ
taken_by ns r = slice_index_or ns r 0

pub record AreTaken (m : Map Record) (ns : List ℕ) : Type 0 where
  pub bounded : (r : ℕ) → taken_by ns r ≤ highest_number
  pub full : (r n : ℕ) → n < taken_by ns r → is_free m r n ≡ false

-- the same, but for what is said of i
pub record AreTakenBut (i : ℕ) (m : Map Record) (ns : List ℕ) : Type 0 where
  pub bounded : (r : ℕ) → taken_by ns r ≤ highest_number
  pub full : (r n : ℕ) → n < taken_by ns r → instance_of r (n + 1) ≢ i → is_free m r n ≡ false
