-- How the program ends at a fault, and the line that it then reports.
use Rattle.std.specs.Prelude.{ℕ, Bool, true, false, List}
use Rattle.ep_cli.specs.Lines.{script_refused, bad_bundle, not_a_run, out_of_memory, reading_failed, writing_failed}
use Rattle.ep_bundle.specs.declared.bundle_fault.BundleFault.{BundleFault}
use Rattle.ep_bundle.specs.declared.bundle_fault.BundleFault.TheVariants as bundle
use Rattle.ep_script.specs.declared.script_fault.ScriptFault.{ScriptFault}
use Rattle.ep_script.specs.declared.script_fault.ScriptFault.TheVariants as script
use Rattle.ep_main.specs.declared.engine_fault.EngineFault.{EngineFault}
use Rattle.ep_main.specs.declared.engine_fault.EngineFault.TheVariants.{Script, BadBundle, NotARun, Memory, Read, Write}
use Rattle.ep_cli.specs.declared.status.Status.{Status}
use Rattle.ep_cli.specs.declared.status.Status.TheVariants.{Refused, OutOfMemory, Failed}

abbrev pub line_of : EngineFault → List ℕ
line_of (Script line) = script_refused line
line_of (BadBundle field) = bad_bundle field.at
line_of (NotARun replica entry) = not_a_run replica entry
line_of Memory = out_of_memory
line_of Read = reading_failed
line_of Write = writing_failed

abbrev pub status_of : EngineFault → Status
status_of (Script line) = Refused
status_of (BadBundle field) = Refused
status_of (NotARun replica entry) = Refused
status_of Memory = OutOfMemory
status_of Read = Failed
status_of Write = Failed

-- the reader's own fault
abbrev pub is_read : EngineFault → Bool
is_read (Script line) = false
is_read (BadBundle field) = false
is_read (NotARun replica entry) = false
is_read Memory = false
is_read Read = true
is_read Write = false

-- the writer's own fault
abbrev pub is_write : EngineFault → Bool
is_write (Script line) = false
is_write (BadBundle field) = false
is_write (NotARun replica entry) = false
is_write Memory = false
is_write Read = false
is_write Write = true

-- a script's fault as the program's
abbrev pub of_script : ScriptFault → EngineFault
of_script (script.Refused line) = Script line
of_script script.Memory = Memory
of_script script.ReadFailed = Read

-- a bundle's fault as the program's
abbrev pub of_bundle : BundleFault → EngineFault
of_bundle bundle.Memory = Memory
of_bundle bundle.ReadFailed = Read
of_bundle (bundle.BadBundle field) = BadBundle field
of_bundle (bundle.NotARun replica entry) = NotARun replica entry
