-- What is shown of the map of a log in a generation.
use Rattle.std.specs.Prelude.{◌≡◌, ◌≢◌, ℕ, false, List, [], ◌∷◌, ◌++◌, length, codes, decimal}
use Rattle.std.specs.FinMap.{entries}
use Rattle.ep_assemble.specs.Logs.{IsOfLog, IsReadTo}
use Rattle.ep_assemble.specs.Generations.{IsOfOpening}
use Rattle.ep_assemble.specs.declared.assembled.End.{End}
use Rattle.ep_base.specs.declared.version_kind.VersionKind.TheVariants.{V3}
use Rattle.ep_journal.specs.Entries.{Log as Journal}
use Rattle.ep_journal.specs.Leaving.{standing}
use Rattle.ep_log.specs.Origins.{Origin}
use Rattle.ep_log.specs.Refusing.{IsRefused as IsNoLog}
use Rattle.ep_log.specs.declared.log_fault.LogFault.{LogFault}
use Rattle.ep_log.specs.declared.log_fault.LogFault.TheVariants as log_
use Rattle.ep_opening.specs.Bytes.{opening_bytes}
use Rattle.ep_opening.specs.Files.{File}
use Rattle.ep_opening.specs.Reading.{IsRefused as IsNoFile}
use Rattle.ep_opening.specs.declared.opening_fault.OpeningFault.{OpeningFault}
use Rattle.ep_opening.specs.declared.opening_fault.OpeningFault.TheVariants as opening_
use Rattle.ep_report.specs.Contents.{contents_text}
use Rattle.ep_rules.specs.OneMap.{Contents}
use Rattle.ep_script.specs.Word.{word_of}
use Rattle.ep_assemble.specs.declared.show_fault.ShowFault.{ShowFault}
use Rattle.ep_assemble.specs.declared.show_fault.ShowFault.TheVariants.{Memory, Opening, OtherGeneration, Log}

-- a key, and what it has
abbrev pub pair_line : List ℕ × List ℕ → List ℕ
pair_line e = word_of e.0 ++ codes " " ++ word_of e.1 ++ codes "\n"

abbrev pub pair_lines : List (List ℕ × List ℕ) → List ℕ
pair_lines [] = []
pair_lines (e ∷ es) = pair_line e ++ pair_lines es

-- the generation, how many entries its log has, how many keys have a value, and the digest of them all
abbrev pub head_line : ℕ → ℕ → Contents → List ℕ
head_line g n m = codes "generation " ++ decimal g ++ codes " entries " ++ decimal n ++ codes " contents " ++ contents_text m ++ codes "\n"

abbrev pub map_text : ℕ → ℕ → Contents → List ℕ
map_text g n m = head_line g n m ++ pair_lines (entries m)

-- what the replica with this file began with, whose log names this digest
abbrev pub origin_of : File → List ℕ → Origin
origin_of file digest = record { version = V3 file.generation; opening = file.opening; digest = digest }

-- behind no byte of a log
abbrev pub no_end : End
no_end = record { whole = 0; is_torn = false }

-- a log has n entries, which leave this map, up to its torn end where it has one; one that isn't begun has no byte
abbrev pub Leaves : File → List ℕ → List ℕ → ℕ → Contents → End → Type 0
Leaves file digest [] n m end = (n ≡ 0) × (m ≡ file.opening.contents) × (end ≡ no_end)
Leaves file digest (b ∷ bs) n m end = (j : Journal) × IsReadTo (origin_of file digest) (b ∷ bs) j end × (n ≡ length j.entries) × (m ≡ (standing j).state.store.contents)

-- the text is that of the map that the log leaves beside this file, by this digest
pub record IsTextOf (file : File) (digest log text : List ℕ) (end : End) : Type 0 where
  pub count : ℕ
  pub map : Contents
  pub leaves : Leaves file digest log count map end
  pub reported : text ≡ map_text file.generation count map

-- the text is that of the map that the log leaves, beside the opening file with these bytes, which it names by this digest, in generation g
pub record IsShown (g : ℕ) (opening digest log text : List ℕ) (end : End) : Type 0 where
  pub file : File
  pub is : opening ≡ opening_bytes file
  pub generation : file.generation ≡ g
  pub text_of : IsTextOf file digest log text end

-- the opening file is one, and this is said of it
pub record OfFile (opening : List ℕ) (P : File → Type 0) : Type 0 where
  pub file : File
  pub is : opening ≡ opening_bytes file
  pub holds : P file

-- why these bytes show no map of generation g: the first fault
abbrev pub IsNotShown : ℕ → List ℕ → List ℕ → List ℕ → ShowFault → Type 0
IsNotShown g opening digest log Memory = Unit {0}
IsNotShown g opening digest log (Opening fault) = IsOfOpening fault × IsNoFile fault opening
IsNotShown g opening digest log OtherGeneration = OfFile opening (λ file. file.generation ≢ g)
IsNotShown g opening digest log (Log fault) = OfFile opening (λ file. (file.generation ≡ g) × IsOfLog fault × IsNoLog (origin_of file digest) fault log)

-- why these bytes are no opening file of generation g
abbrev pub IsNotOpened : ℕ → List ℕ → ShowFault → Type 0
IsNotOpened g opening Memory = Unit {0}
IsNotOpened g opening (Opening fault) = IsOfOpening fault × IsNoFile fault opening
IsNotOpened g opening OtherGeneration = OfFile opening (λ file. file.generation ≢ g)
IsNotOpened g opening (Log fault) = ⊥

-- why these bytes are no log of the replica with this file
abbrev pub IsNotLogged : File → List ℕ → List ℕ → ShowFault → Type 0
IsNotLogged file digest log Memory = Unit {0}
IsNotLogged file digest log (Opening fault) = ⊥
IsNotLogged file digest log OtherGeneration = ⊥
IsNotLogged file digest log (Log fault) = IsOfLog fault × IsNoLog (origin_of file digest) fault log

abbrev pub of_opening : OpeningFault → ShowFault
of_opening opening_.Memory = Memory
of_opening (opening_.CutShort at) = Opening (opening_.CutShort at)
of_opening (opening_.Damaged at) = Opening (opening_.Damaged at)
of_opening (opening_.Wrong at field) = Opening (opening_.Wrong at field)

abbrev pub of_log : LogFault → ShowFault
of_log log_.Memory = Memory
of_log log_.NoHeader = Log log_.NoHeader
of_log log_.OtherVersion = Log log_.OtherVersion
of_log log_.OtherGeneration = Log log_.OtherGeneration
of_log (log_.BadLength at) = Log (log_.BadLength at)
of_log (log_.BadChecksum at) = Log (log_.BadChecksum at)
of_log (log_.BadEntry at) = Log (log_.BadEntry at)
of_log (log_.NotNext at) = Log (log_.NotNext at)
of_log (log_.Turned at by) = Log (log_.Turned at by)
