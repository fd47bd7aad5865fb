-- The lines that are reported of opening files and logs of a generation, by the names of their files.
use Rattle.std.specs.Prelude.{ℕ, List, ◌++◌, codes, decimal}
use Rattle.ep_opening.specs.Texts.{field_text}
use Rattle.ep_opening.specs.declared.opening_fault.OpeningFault.{OpeningFault}
use Rattle.ep_opening.specs.declared.opening_fault.OpeningFault.TheVariants as opening_
use Rattle.ep_assemble.specs.Lines.{name_at, refusal_line}
use Rattle.ep_assemble.specs.declared.differing.Differing.{Differing}
use Rattle.ep_assemble.specs.declared.differing.Differing.TheVariants as differing
use Rattle.ep_assemble.specs.declared.generation_fault.GenerationFault.{GenerationFault}
use Rattle.ep_assemble.specs.declared.generation_fault.GenerationFault.TheVariants.{NoLog, Opening, Other, LogSize, Assemble}

abbrev pub opening_text : OpeningFault → List ℕ
opening_text opening_.Memory = codes "out of memory"
opening_text (opening_.CutShort at) = codes "cut short at byte " ++ decimal at
opening_text (opening_.Damaged at) = codes "damaged, by the digest at byte " ++ decimal at
opening_text (opening_.Wrong at field) = field_text field ++ (codes " is wrong at byte " ++ decimal at)

abbrev pub opening_line : List ℕ → OpeningFault → List ℕ
opening_line name fault = codes "opening refused " ++ name ++ codes ": " ++ opening_text fault ++ codes "\n"

-- a file of another cluster than the others
abbrev pub cluster_line : List ℕ → List ℕ
cluster_line name = name ++ codes " is of another cluster\n"

-- of opening files with these names, the one at the place
abbrev pub differing_line : List (List ℕ) → ℕ → Differing → List ℕ
differing_line names place differing.Generation = name_at names place ++ codes " is of another generation\n"
differing_line names place differing.Size = cluster_line (name_at names place)
differing_line names place differing.Map = name_at names place ++ codes " has another map than the first opening\n"

-- of opening files, logs and files of receipts with these names
abbrev pub generation_line : List (List ℕ) → List (List ℕ) → List (List ℕ) → GenerationFault → List ℕ
generation_line openings logs files NoLog = codes "no log\n"
generation_line openings logs files (Opening place fault) = opening_line (name_at openings place) fault
generation_line openings logs files (Other place how) = differing_line openings place how
generation_line openings logs files (LogSize place) = cluster_line (name_at logs place)
generation_line openings logs files (Assemble fault) = refusal_line logs files fault

-- a folder lacks this file
abbrev pub missing_line : List ℕ → List ℕ
missing_line name = name ++ codes " is missing: a generation in which a machine's log is gone can't be audited whole; a chain begins behind it\n"
