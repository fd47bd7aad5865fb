-- What the head of a script says that replicas open with.
use Rattle.std.specs.FinMap.{from_entries}
use Rattle.ep_journal.specs.Openings.{Opening}
use Rattle.ep_script.specs.Heads as script

-- each key has the value of its line, and the clocks go on from the stamp
abbrev pub opening_of : script.Opening → Opening
opening_of o = record { contents = from_entries o.entries; base_stamp = o.base_stamp }
