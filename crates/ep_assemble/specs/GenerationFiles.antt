-- What becomes of the files of a generation, by their names and the bytes that they gave: first of opening files, then of logs, then of receipts.
use Rattle.std.specs.Prelude.{◌≡◌, ℕ, List, ◌++◌, Contains}
use Rattle.ep_assemble.specs.GenerationLines.{generation_line, missing_line}
use Rattle.ep_assemble.specs.Generations.{IsAssembledOf, IsRefusedIn}
use Rattle.ep_assemble.specs.Lines.{torn_lines}
use Rattle.ep_cli.specs.Files.{IsUnreadLine, IsUnreadOf}
use Rattle.ep_assemble.specs.declared.assemble_fault.AssembleFault.TheVariants.{Memory, Log, Collect, Receipts, TooManyReceipts}
use Rattle.ep_assemble.specs.declared.assembled.End.{End}
use Rattle.ep_cli.specs.declared.files_fault.FilesFault.{FilesFault}
use Rattle.ep_cli.specs.declared.files_fault.FilesFault.TheVariants as files
use Rattle.ep_assemble.specs.declared.generation_fault.GenerationFault.{GenerationFault}
use Rattle.ep_assemble.specs.declared.generation_fault.GenerationFault.TheVariants.{NoLog, Opening, Other, LogSize, Assemble}
use Rattle.ep_assemble.specs.declared.opened_log.OpenedLog.{OpenedLog}

-- The text is the bundle of generation g, of opening files and logs and of receipts with these bytes, and the lines are those of the ends that are torn, by
-- the names of the logs and of the files of receipts.
pub record IsCollectedOf (g : ℕ) (logs receipts : List (List ℕ)) (kept : List OpenedLog) (receipt_bytes : List (List ℕ)) (text lines : List ℕ) : Type 0 where
  pub ends : List End
  pub receipt_ends : List End
  pub assembled : IsAssembledOf g kept receipt_bytes text ends receipt_ends
  pub reported : lines ≡ torn_lines 0 logs ends ++ torn_lines 0 receipts receipt_ends

-- other than out of memory
abbrev pub IsOfGeneration : GenerationFault → Type 0
IsOfGeneration NoLog = Unit {0}
IsOfGeneration (Opening place fault) = Unit {0}
IsOfGeneration (Other place how) = Unit {0}
IsOfGeneration (LogSize place) = Unit {0}
IsOfGeneration (Assemble Memory) = ⊥
IsOfGeneration (Assemble (Log place fault)) = Unit {0}
IsOfGeneration (Assemble (Collect fault)) = Unit {0}
IsOfGeneration (Assemble (Receipts place at)) = Unit {0}
IsOfGeneration (Assemble TooManyReceipts) = Unit {0}

-- these bytes make no bundle of generation g, and the line is that of the first fault, by the files' names
pub record IsNotCollectedOf (g : ℕ) (openings logs receipts : List (List ℕ)) (kept : List OpenedLog) (receipt_bytes : List (List ℕ)) (line : List ℕ) : Type 0 where
  pub fault : GenerationFault
  pub of : IsOfGeneration fault
  pub refused : IsRefusedIn g kept receipt_bytes fault
  pub reported : line ≡ generation_line openings logs receipts fault

-- a file of one of these names is missing, and the line says which
abbrev pub IsMissingLine : List (List ℕ) → List ℕ → Type 0
IsMissingLine names line = (name : List ℕ) × Contains names name × (line ≡ missing_line name)

-- out of memory, or a file of one of these names that isn't read or is missing
abbrev pub IsLacking : List (List ℕ) → FilesFault → Type 0
IsLacking names files.Memory = Unit {0}
IsLacking names (files.ReadFailed line) = IsUnreadLine names line.items
IsLacking names (files.Refused line) = IsMissingLine names line.items

-- out of memory, or the file of this name isn't read or is missing
abbrev pub IsOfLacking : List ℕ → FilesFault → Type 0
IsOfLacking name files.Memory = Unit {0}
IsOfLacking name (files.ReadFailed line) = IsUnreadOf name line.items
IsOfLacking name (files.Refused line) = line.items ≡ missing_line name
