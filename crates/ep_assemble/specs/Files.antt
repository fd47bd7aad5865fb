-- What becomes of files of logs and of receipts, by their names and the bytes that they gave: first of logs, then of receipts.
use Rattle.std.specs.Prelude.{◌≡◌, ℕ, List, ◌++◌}
use Rattle.ep_assemble.specs.Lines.{plain_line, torn_lines}
use Rattle.ep_assemble.specs.Logs.{IsAssembled, IsRefused}
use Rattle.ep_assemble.specs.declared.assembled.End.{End}
use Rattle.ep_assemble.specs.declared.assemble_fault.AssembleFault.{AssembleFault}
use Rattle.ep_assemble.specs.declared.assemble_fault.AssembleFault.TheVariants.{Memory, Log, Collect, Receipts, TooManyReceipts}

-- The text is the bundle of the logs and receipts with these bytes, and the lines are those of the ends that are torn, by the files' names.
pub record IsCollected (logs receipts log_bytes receipt_bytes : List (List ℕ)) (text lines : List ℕ) : Type 0 where
  pub ends : List End
  pub receipt_ends : List End
  pub assembled : IsAssembled log_bytes receipt_bytes text ends receipt_ends
  pub reported : lines ≡ torn_lines 0 logs ends ++ torn_lines 0 receipts receipt_ends

-- other than out of memory
abbrev pub IsOfFiles : AssembleFault → Type 0
IsOfFiles Memory = ⊥
IsOfFiles (Log place fault) = Unit {0}
IsOfFiles (Collect fault) = Unit {0}
IsOfFiles (Receipts place at) = Unit {0}
IsOfFiles TooManyReceipts = Unit {0}

-- these bytes make no bundle, and the line is that of the first fault, by the files' names
pub record IsNotCollected (logs receipts log_bytes receipt_bytes : List (List ℕ)) (line : List ℕ) : Type 0 where
  pub fault : AssembleFault
  pub of : IsOfFiles fault
  pub refused : IsRefused fault log_bytes receipt_bytes
  pub reported : line ≡ plain_line logs receipts fault
