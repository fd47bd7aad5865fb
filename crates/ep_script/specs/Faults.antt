-- A line's fault as a script's, and which of them is the source's.
use Rattle.std.specs.Prelude.{Bool, true, false}
use Rattle.ep_script.specs.declared.line_fault.LineFault.{LineFault}
use Rattle.ep_script.specs.declared.line_fault.LineFault.TheVariants as line
use Rattle.ep_script.specs.declared.script_fault.ScriptFault.{ScriptFault}
use Rattle.ep_script.specs.declared.script_fault.ScriptFault.TheVariants as script

abbrev pub of_line : LineFault → ScriptFault
of_line line.ReadFailed = script.ReadFailed
of_line line.Memory = script.Memory

abbrev pub is_line_read_failed : LineFault → Bool
is_line_read_failed line.Memory = false
is_line_read_failed line.ReadFailed = true

abbrev pub is_read_failed : ScriptFault → Bool
is_read_failed script.Memory = false
is_read_failed script.ReadFailed = true
is_read_failed (script.Refused n) = false
