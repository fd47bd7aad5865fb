-- Where faults are.
use Rattle.std.specs.Prelude.{ℕ, Option, Some, None}
use Rattle.ep_embedded.specs.declared.start_fault.StartFault.{StartFault}
use Rattle.ep_embedded.specs.declared.start_fault.StartFault.TheVariants as start
use Rattle.ep_embedded.specs.declared.succeed_fault.SucceedFault.{SucceedFault}
use Rattle.ep_embedded.specs.declared.succeed_fault.SucceedFault.TheVariants as succeed
use Rattle.ep_library.specs.declared.place.Place.{Place}
use Rattle.ep_log.specs.declared.log_fault.LogFault.{LogFault}
use Rattle.ep_log.specs.declared.log_fault.LogFault.TheVariants as log
use Rattle.ep_node.specs.declared.open_fault.OpenFault.{OpenFault}
use Rattle.ep_node.specs.declared.open_fault.OpenFault.TheVariants as opened
use Rattle.ep_opening.specs.declared.opening_fault.OpeningFault.{OpeningFault}
use Rattle.ep_opening.specs.declared.opening_fault.OpeningFault.TheVariants as opening

abbrev pub nowhere : Place
nowhere = record { at = 0; by = 0 }

abbrev pub byte_at : ℕ → Place
byte_at n = record { at = n; by = 0 }

-- where a log isn't read
abbrev pub log_place : LogFault → Place
log_place log.Memory = nowhere
log_place log.NoHeader = nowhere
log_place log.OtherVersion = nowhere
log_place log.OtherGeneration = nowhere
log_place (log.BadLength n) = byte_at n
log_place (log.BadChecksum n) = byte_at n
log_place (log.BadEntry n) = byte_at n
log_place (log.NotNext n) = byte_at n
log_place (log.Turned n m) = record { at = n; by = m }

-- where a log isn't begun, or gone on from
abbrev pub open_place : OpenFault → Place
open_place opened.OutOfRange = nowhere
open_place opened.Memory = nowhere
open_place (opened.Failed cause) = nowhere
open_place opened.NoLog = nowhere
open_place opened.LogExists = nowhere
open_place opened.OtherLog = nowhere
open_place (opened.Log fault) = log_place fault
open_place (opened.NotClocked number) = byte_at number

-- where an opening isn't read
abbrev pub opening_place : OpeningFault → Place
opening_place opening.Memory = nowhere
opening_place (opening.CutShort n) = byte_at n
opening_place (opening.Damaged n) = byte_at n
opening_place (opening.Wrong n field) = byte_at n

-- where what a replica is opened as is wrong
abbrev pub start_place : StartFault → Place
start_place start.Memory = nowhere
start_place (start.Opening fault) = opening_place fault
start_place (start.OtherSize count) = byte_at count
start_place (start.Log fault) = open_place fault

-- where the log of a replica of the next generation is wrong, if that is why there is none
abbrev pub succeed_place : SucceedFault → Option Place
succeed_place succeed.Memory = None
succeed_place succeed.OutOfRange = None
succeed_place succeed.NotSealed = None
succeed_place succeed.LastGeneration = None
succeed_place succeed.Unsynced = None
succeed_place (succeed.Log fault) = Some (open_place fault)
