-- What becomes of the files that a command names, by the status that is answered: of the files' names, of the output and of the fault output. No contract can
-- say which bytes a file gives.
use Rattle.std.specs.Prelude.{◌≡◌, ◌⊎◌, ℕ, List, ◌++◌, All, Contains, codes, length, map}
use Rattle.ep_assemble.specs.Files.{IsCollected, IsNotCollected}
use Rattle.ep_assemble.specs.GenerationFiles.{IsCollectedOf, IsLacking, IsNotCollectedOf}
use Rattle.ep_assemble.specs.Generations.{NamesItsFile}
use Rattle.ep_assemble.specs.declared.opened_log.OpenedLog.{OpenedLog}
use Rattle.ep_cli.specs.Endings.{Gives, TurnsAway}
use Rattle.ep_cli.specs.Files.{IsOfFile, IsUnread, IsUnreadOf}
use Rattle.ep_cli.specs.Outputs.{Output, WroteNothing}
use Rattle.ep_cli.specs.declared.files_fault.FilesFault.{FilesFault}
use Rattle.ep_cli.specs.declared.files_fault.FilesFault.TheVariants as files
use Rattle.ep_cli.specs.declared.status.Status.{Status}
use Rattle.ep_assemble.specs.ShownFiles.{AreNotShown, AreShown}
use Rattle.ep_folder.specs.Paths.{file_path}
use Rattle.ep_opening.specs.Bytes.{opening_bytes}
use Rattle.ep_server.specs.Faults.{line_of_folder}
use Rattle.ep_server.specs.Replays.{HasOpened}
use Rattle.ep_server.specs.declared.folder_fault.FolderFault.{FolderFault}
use Rattle.ep_server.specs.declared.named_file.NamedFile.{NamedFile}

-- A file isn't read, or memory was refused, which is reported, and nothing was written on the output.
pub record AreUnread (Is : FilesFault → Type 0) (status : Status) (out fault : Output) : Type 0 where
  pub why : FilesFault
  pub of : Is why
  pub silent : WroteNothing out
  pub reported : TurnsAway why status fault

-- out of memory; or a file in the folder of this name isn't read; or what it has is refused, which is reported behind its name
abbrev pub IsUnopened : List ℕ → FilesFault → Type 0
IsUnopened folder files.Memory = Unit {0}
IsUnopened folder (files.ReadFailed line) = IsUnreadOf folder line.items
IsUnopened folder (files.Refused line) = (why : FolderFault) × (line.items ≡ folder ++ codes ": " ++ line_of_folder why)

-- that of one of these folders
abbrev pub AreUnopened : List (List ℕ) → FilesFault → Type 0
AreUnopened folders e = (folder : List ℕ) × Contains folders folder × IsUnopened folder e

-- the log names the opening beside it: a file, by its digest; or what a generation opens with, whose bytes these are
abbrev pub IsNamedLog : OpenedLog → Type 0
IsNamedLog kept = NamesItsFile kept ⊎ ((n : NamedFile) × HasOpened n × (kept.opening.items ≡ opening_bytes n.file) × (kept.digest ≡ n.digest))

-- Logs and receipts, of which a bundle is made.

-- each file gave bytes, of which this became
pub record AreCollected (logs receipts : List (List ℕ)) (status : Status) (out fault : Output) : Type 0 where
  pub log_bytes : List (List ℕ)
  pub log_count : length log_bytes ≡ length logs
  pub receipt_bytes : List (List ℕ)
  pub receipt_count : length receipt_bytes ≡ length receipts
  pub gives : Gives (IsCollected logs receipts log_bytes receipt_bytes) (IsNotCollected logs receipts log_bytes receipt_bytes) status out fault

abbrev pub CollectsFiles : List (List ℕ) → List (List ℕ) → Status → Output → Output → Type 0
CollectsFiles logs receipts status out fault = AreCollected logs receipts status out fault ⊎ AreUnread (λ why. IsUnread logs why ⊎ IsUnread receipts why) status out fault

-- The folders of generation g, of which a bundle is made: opening files and logs have the names that they have there.

-- the file of this name that each folder has of generation g
abbrev pub paths_in : ℕ → List ℕ → List (List ℕ) → List (List ℕ)
paths_in g name folders = map (λ folder. file_path folder g name) folders

-- each file gave bytes, of which this became
pub record AreCollectedOf (g : ℕ) (openings logs receipts : List (List ℕ)) (status : Status) (out fault : Output) : Type 0 where
  pub kept : List OpenedLog
  pub kept_count : length kept ≡ length logs
  pub named : All IsNamedLog kept
  pub receipt_bytes : List (List ℕ)
  pub receipt_count : length receipt_bytes ≡ length receipts
  pub gives : Gives (IsCollectedOf g logs receipts kept receipt_bytes) (IsNotCollectedOf g openings logs receipts kept receipt_bytes) status out fault

-- or one is missing, or what one of the folders has is refused
abbrev pub CollectsGeneration : ℕ → List (List ℕ) → List (List ℕ) → List (List ℕ) → List (List ℕ) → Status → Output → Output → Type 0
CollectsGeneration g folders openings logs receipts status out fault =
    AreCollectedOf g openings logs receipts status out fault ⊎ AreUnread (λ why. IsLacking openings why ⊎ IsLacking logs why ⊎ AreUnopened folders why ⊎ IsUnread receipts why) status out fault

-- What a folder has of generation g, whose map is shown: its opening file and its log have these names.
abbrev pub ShowsFiles : ℕ → List ℕ → List ℕ → List ℕ → Status → Output → Output → Type 0
ShowsFiles g folder opening_name log_name status out fault =
    ((kept : OpenedLog) × IsNamedLog kept × Gives (AreShown g log_name kept.opening.items kept.digest kept.log.items) (AreNotShown g opening_name log_name kept.opening.items kept.digest kept.log.items) status out fault)
    ⊎ AreUnread (λ why. IsOfFile opening_name why ⊎ IsOfFile log_name why ⊎ IsUnopened folder why) status out fault
