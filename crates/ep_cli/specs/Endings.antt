-- How a program ends that does nothing, or that prints what it made of files: the status, and what is reported.
use Rattle.std.specs.Prelude.{◌≡◌, ◌++◌, ℕ, List, true, Result, Ok, Err, string_bytes}
use Rattle.ep_cli.specs.Lines.{command_line_refused, out_of_memory, writing_failed}
use Rattle.ep_cli.specs.Outputs.{Output, Reported, Wrote, WroteNothing}
use Rattle.ep_cli.specs.declared.words_fault.WordsFault.{WordsFault}
use Rattle.ep_cli.specs.declared.words_fault.WordsFault.TheVariants as declined
use Rattle.ep_cli.specs.declared.files_fault.FilesFault.{FilesFault}
use Rattle.ep_cli.specs.declared.files_fault.FilesFault.TheVariants as files
use Rattle.ep_cli.specs.declared.printout.Printout.{Printout}
use Rattle.ep_cli.specs.declared.status.Status.{Status}
use Rattle.ep_cli.specs.declared.status.Status.TheVariants.{Done, AuditRefused, Refused, OutOfMemory, Failed}

-- why nothing is done is reported, and decides on the status
abbrev pub ReportsWhy : WordsFault → Status → Output → Type 0
ReportsWhy (declined.Words why) status fault = (status ≡ Refused) × Reported fault (command_line_refused ++ string_bytes why)
ReportsWhy declined.Memory status fault = (status ≡ OutOfMemory) × Reported fault out_of_memory

-- why files aren't taken is reported, and decides on the status
abbrev pub TurnsAway : FilesFault → Status → Output → Type 0
TurnsAway files.Memory status fault = (status ≡ OutOfMemory) × Reported fault out_of_memory
TurnsAway (files.ReadFailed line) status fault = (status ≡ Failed) × Reported fault line.items
TurnsAway (files.Refused line) status fault = (status ≡ Refused) × Reported fault line.items

-- Memory was refused, and nothing was written on the output.
pub record IsOutOfMemory (out fault : Output) : Type 0 where
  pub silent : WroteNothing out
  pub reported : Reported fault out_of_memory

-- The output has failed, which is reported.
pub record IsUnwritten (out fault : Output) : Type 0 where
  pub failed : out.failed ≡ true
  pub reported : Reported fault writing_failed

-- what was made is written, which may fail, and its lines are reported; or it is reported why nothing is made
abbrev pub Prints : Result Printout FilesFault → Status → Output → Output → Type 0
Prints (Ok p) Done out fault = Wrote out p.text.items × Reported fault p.lines.items
Prints (Ok p) AuditRefused out fault = ⊥
Prints (Ok p) Refused out fault = ⊥
Prints (Ok p) OutOfMemory out fault = ⊥
Prints (Ok p) Failed out fault = IsUnwritten out fault
Prints (Err why) status out fault = WroteNothing out × TurnsAway why status fault

-- Files whose bytes are known, of which a text with lines is made, or which are refused by a line.

-- A text that is made of them was written, and its lines were reported.
pub record IsGiven (Makes : List ℕ → List ℕ → Type 0) (out fault : Output) : Type 0 where
  pub text : List ℕ
  pub lines : List ℕ
  pub made : Makes text lines
  pub wrote : Wrote out text
  pub reported : Reported fault lines

-- They are refused: the line is reported, and nothing was written on the output.
pub record IsDenied (Refuses : List ℕ → Type 0) (out fault : Output) : Type 0 where
  pub line : List ℕ
  pub refused : Refuses line
  pub silent : WroteNothing out
  pub reported : Reported fault line

-- by the status
abbrev pub Gives : (List ℕ → List ℕ → Type 0) → (List ℕ → Type 0) → Status → Output → Output → Type 0
Gives Makes Refuses Done out fault = IsGiven Makes out fault
Gives Makes Refuses AuditRefused out fault = ⊥
Gives Makes Refuses Refused out fault = IsDenied Refuses out fault
Gives Makes Refuses OutOfMemory out fault = IsOutOfMemory out fault
Gives Makes Refuses Failed out fault = IsUnwritten out fault
