-- tools/generate writes this file, from crates/ep_rules/specs/States.antt.
-- The state of a replica.
use Rattle.std.specs.Prelude.{ℕ, ◌+◌, Bool, List, [], Option, Some, None, is_none}
use Rattle.ep_base.specs.Instances.{instance_of, highest_number}
use Rattle.ep_base.specs.declared.attrs.Attrs.{Attrs}
use Rattle.ep_base.specs.Commands.{Command, Noop}
use Rattle.ep_base.specs.declared.decree.Decree.{Decree}
use Rattle.ep_rules.specs.Cells.{Change, Cell, record_or_fresh, committed_decree}
use Rattle.ep_rules.specs.Counting.{least}
use Rattle.ep_rules.specs.Graph.{Graph}
use Rattle.ep_laws.specs.Rows.Maps.{Map, none, get, insert, remove}
use Rattle.ep_laws.specs.Rows.OneMap.{Store}
use Rattle.ep_rules.specs.declared.led_instance.LedInstance.{LedInstance}
use Rattle.ep_rules.specs.declared.record.Record.{Record}

-- records, what the replica leads, the counters that Nacks named, what it executed, in order, and its map
pub record State : Type 0 where
  pub records : Map Record
  pub leads : Map LedInstance
  pub reported : Map ℕ
  pub executed : List ℕ
  pub store : Store

abbrev pub fresh_state : (base : Store) → State
fresh_state base = record { records = none; leads = none; reported = none; executed = []; store = base }

-- One instance.

abbrev pub or_zero : Option ℕ → ℕ
or_zero None = 0
or_zero (Some n) = n

-- what the replica knows of an instance
abbrev pub cell_in : State → ℕ → Cell
cell_in s i = record { entry = get s.records i; led = get s.leads i; reported = or_zero (get s.reported i) }

abbrev pub record_in : State → ℕ → Record
record_in s i = record_or_fresh i (get s.records i)

-- A change of one instance.

abbrev pub with_entry : {X : Type 0} → Map X → ℕ → Option X → Map X
with_entry m i None = m
with_entry m i (Some x) = insert m i x

abbrev pub with_held : {X : Type 0} → Map X → ℕ → Option X → Map X
with_held m i None = remove m i
with_held m i (Some x) = insert m i x

abbrev pub with_led : Map LedInstance → ℕ → Option (Option LedInstance) → Map LedInstance
with_led m i None = m
with_led m i (Some l) = with_held m i l

abbrev pub changed : State → ℕ → Change → State
changed s i ch = record {
  records = with_entry s.records i ch.entry;
  leads = with_led s.leads i ch.led;
  reported = with_entry s.reported i ch.reported;
  executed = s.executed;
  store = s.store;
}

-- What is free, and what is committed.

-- nothing is recorded of the instance of number n + 1
abbrev pub is_free : Map Record → ℕ → ℕ → Bool
is_free records r n = is_none (get records (instance_of r (n + 1)))

-- the least n for which it is (a proof opens it by `unfolding`: a bound of 9,000 computes long)
abbrev pub free_number : Map Record → ℕ → Option ℕ
free_number records r = least highest_number (is_free records r)

abbrev pub committed_in : Map Record → ℕ → Option Decree
committed_in records i = committed_decree (record_or_fresh i (get records i)).vote

abbrev pub attrs_of : Option Decree → Option Attrs
attrs_of None = None
attrs_of (Some x) = Some x.attrs

abbrev pub command_of : Option Decree → Command
command_of None = Noop
command_of (Some x) = x.command

-- what is committed depends on what
abbrev pub graph_in : Map Record → Graph
graph_in records i = attrs_of (committed_in records i)

abbrev pub command_in : Map Record → ℕ → Command
command_in records i = command_of (committed_in records i)
