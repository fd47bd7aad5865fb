-- What a run is asked for.
use Rattle.std.specs.Prelude.{ℕ}
use Rattle.ep_main.specs.declared.asked.Emit.{Emit}
use Rattle.ep_main.specs.declared.host.Host.{Host}

-- by which host, what is printed, how many frames an inbox, or a ring, holds, and how many turns a section has
pub record Options : Type 0 where
  pub host : Host
  pub emit : Emit
  pub capacity : ℕ
  pub turns : ℕ

-- a run by this host, of which this is printed, with the limits that hold where none are given
abbrev pub plain : Host → Emit → Options
plain host what = record { host = host; emit = what; capacity = 64; turns = 100000 }
