-- What becomes of files whose bytes are known, by what was made of them.
use Rattle.std.proofs.Common.{◌≡◌, ℕ, List, Result, Ok, Err, IfOk, IfErr}
use Rattle.ep_cli.specs.Endings.{Gives, Prints}
use Rattle.ep_cli.specs.Files.{IsReason}
use Rattle.ep_cli.specs.Outputs.{Output}
use Rattle.ep_cli.specs.declared.files_fault.FilesFault.{FilesFault}
use Rattle.ep_cli.specs.declared.files_fault.FilesFault.TheVariants as files
use Rattle.ep_cli.specs.declared.printout.Printout.{Printout}
use Rattle.ep_cli.specs.declared.status.Status.{Status}
use Rattle.ep_cli.specs.declared.status.Status.TheVariants.{Done, AuditRefused, Refused, OutOfMemory, Failed}

pub gives :
    (Makes : List ℕ → List ℕ → Type 0) (Refuses : List ℕ → Type 0) (made : Result Printout FilesFault) (status : Status) (out fault : Output) → IfOk made (λ p. Makes p.text.items p.lines.items) →
    IfErr made (IsReason Refuses) → Prints made status out fault → Gives Makes Refuses status out fault
gives Makes Refuses (Ok p) Done out fault ok err puts = record { text = p.text.items; lines = p.lines.items; made = ok; wrote = puts.0; reported = puts.1 }
gives Makes Refuses (Ok p) AuditRefused out fault ok err puts = puts
gives Makes Refuses (Ok p) Refused out fault ok err puts = absurd puts
gives Makes Refuses (Ok p) OutOfMemory out fault ok err puts = absurd puts
gives Makes Refuses (Ok p) Failed out fault ok err puts = puts
gives Makes Refuses (Err files.Memory) Done out fault ok err puts = let e : Done ≡ OutOfMemory = puts.1.0 in absurd (cc)
gives Makes Refuses (Err files.Memory) AuditRefused out fault ok err puts = let e : AuditRefused ≡ OutOfMemory = puts.1.0 in absurd (cc)
gives Makes Refuses (Err files.Memory) Refused out fault ok err puts = let e : Refused ≡ OutOfMemory = puts.1.0 in absurd (cc)
gives Makes Refuses (Err files.Memory) OutOfMemory out fault ok err puts = record { silent = puts.0; reported = puts.1.1 }
gives Makes Refuses (Err files.Memory) Failed out fault ok err puts = let e : Failed ≡ OutOfMemory = puts.1.0 in absurd (cc)
gives Makes Refuses (Err (files.ReadFailed line)) status out fault ok err puts = absurd err
gives Makes Refuses (Err (files.Refused line)) Done out fault ok err puts = let e : Done ≡ Refused = puts.1.0 in absurd (cc)
gives Makes Refuses (Err (files.Refused line)) AuditRefused out fault ok err puts = let e : AuditRefused ≡ Refused = puts.1.0 in absurd (cc)
gives Makes Refuses (Err (files.Refused line)) Refused out fault ok err puts = record { line = line.items; refused = err; silent = puts.0; reported = puts.1.1 }
gives Makes Refuses (Err (files.Refused line)) OutOfMemory out fault ok err puts = let e : OutOfMemory ≡ Refused = puts.1.0 in absurd (cc)
gives Makes Refuses (Err (files.Refused line)) Failed out fault ok err puts = let e : Failed ≡ Refused = puts.1.0 in absurd (cc)
