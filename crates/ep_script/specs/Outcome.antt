-- What reading a script answers.
use Rattle.std.specs.Prelude.{◌≡◌, ℕ, Result, Ok, Err}
use Rattle.ep_script.specs.declared.script_fault.ScriptFault.{ScriptFault}
use Rattle.ep_script.specs.declared.script_fault.ScriptFault.TheVariants.{ReadFailed, Memory, Refused}

-- the script is the one that is meant, or is refused at the line that is meant, or reading or memory failed
abbrev pub IsScript : {P : Type 0} → Result P ScriptFault → Result P ℕ → Type 0
IsScript (Ok s) o = o ≡ Ok s
IsScript (Err (Refused n)) o = o ≡ Err n
IsScript (Err ReadFailed) o = Unit {0}
IsScript (Err Memory) o = Unit {0}
