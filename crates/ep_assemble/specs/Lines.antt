-- The lines that are reported of logs and receipts, by the names of their files.
use Rattle.std.specs.Prelude.{ℕ, Bool, true, false, suc, cond, List, [], ◌∷◌, ◌++◌, codes, decimal, slice_index_or as get_or}
use Rattle.ep_assemble.specs.declared.collect_fault.CollectFault.{CollectFault}
use Rattle.ep_assemble.specs.declared.collect_fault.CollectFault.TheVariants.{NoJournal, OtherCluster, Twice, Missing}
use Rattle.ep_log.specs.declared.log_fault.LogFault.{LogFault}
use Rattle.ep_log.specs.declared.log_fault.LogFault.TheVariants as log
use Rattle.ep_assemble.specs.declared.assembled.End.{End}
use Rattle.ep_assemble.specs.declared.assemble_fault.AssembleFault.{AssembleFault}
use Rattle.ep_assemble.specs.declared.assemble_fault.AssembleFault.TheVariants.{Memory, Log, Collect, Receipts, TooManyReceipts}

-- what was on the disk at one offset, as the record at another says, isn't there any more
abbrev pub turned_text : ℕ → ℕ → List ℕ
turned_text at by = (codes "damaged at byte " ++ decimal at) ++ (codes ", which was on the disk by the record at byte " ++ decimal by)

abbrev pub log_text : LogFault → List ℕ
log_text log.Memory = codes "out of memory"
log_text log.NoHeader = codes "no header of a log"
log_text log.OtherVersion = codes "another version"
log_text log.OtherGeneration = codes "another generation"
log_text (log.BadLength at) = codes "bad length at byte " ++ decimal at
log_text (log.BadChecksum at) = codes "bad checksum at byte " ++ decimal at
log_text (log.BadEntry at) = codes "bad entry at byte " ++ decimal at
log_text (log.NotNext at) = codes "not the next entry at byte " ++ decimal at
log_text (log.Turned at by) = turned_text at by

abbrev pub log_line : List ℕ → LogFault → List ℕ
log_line name fault = codes "log refused " ++ name ++ codes ": " ++ log_text fault ++ codes "\n"

-- the name at the place
abbrev pub name_at : List (List ℕ) → ℕ → List ℕ
name_at names place = get_or names place []

-- of logs with these names
abbrev pub collect_line : List (List ℕ) → CollectFault → List ℕ
collect_line names NoJournal = codes "no log\n"
collect_line names (OtherCluster place) = name_at names place ++ codes " is of another cluster\n"
collect_line names (Twice r) = codes "replica " ++ decimal r ++ codes " has two logs\n"
collect_line names (Missing r) = codes "replica " ++ decimal r ++ codes " has no log\n"

abbrev pub receipts_line : List ℕ → ℕ → List ℕ
receipts_line name at = codes "receipts refused " ++ name ++ (codes ": bad field at byte " ++ decimal at) ++ codes "\n"

-- of logs and of files of receipts with these names
abbrev pub refusal_line : List (List ℕ) → List (List ℕ) → AssembleFault → List ℕ
refusal_line logs files Memory = codes "out of memory\n"
refusal_line logs files (Log place fault) = log_line (name_at logs place) fault
refusal_line logs files (Collect fault) = collect_line logs fault
refusal_line logs files (Receipts place at) = receipts_line (name_at files place) at
refusal_line logs files TooManyReceipts = codes "receipts refused: more than 4294967295\n"

-- Of logs that are to be of version 2, one of another generation is of version 3.

abbrev pub is_of_generation : LogFault → Bool
is_of_generation log.Memory = false
is_of_generation log.NoHeader = false
is_of_generation log.OtherVersion = false
is_of_generation log.OtherGeneration = true
is_of_generation (log.BadLength at) = false
is_of_generation (log.BadChecksum at) = false
is_of_generation (log.BadEntry at) = false
is_of_generation (log.NotNext at) = false
is_of_generation (log.Turned at by) = false

abbrev pub late_line : List ℕ → List ℕ
late_line name = codes "log refused " ++ name ++ codes ": a log of version 3; name its node's folder, with --generation G\n"

abbrev pub plain_log_line : List ℕ → LogFault → List ℕ
plain_log_line name fault = cond (is_of_generation fault) (late_line name) (log_line name fault)

abbrev pub plain_line : List (List ℕ) → List (List ℕ) → AssembleFault → List ℕ
plain_line logs files Memory = refusal_line logs files Memory
plain_line logs files (Log place fault) = plain_log_line (name_at logs place) fault
plain_line logs files (Collect fault) = refusal_line logs files (Collect fault)
plain_line logs files (Receipts place at) = refusal_line logs files (Receipts place at)
plain_line logs files TooManyReceipts = refusal_line logs files TooManyReceipts

abbrev pub torn_line : List ℕ → ℕ → List ℕ
torn_line name whole = codes "torn end in " ++ name ++ (codes " after byte " ++ decimal whole) ++ codes "\n"

abbrev pub end_line : List ℕ → End → List ℕ
end_line name end = cond end.is_torn (torn_line name end.whole) []

-- of the files from this place on
abbrev pub torn_lines : ℕ → List (List ℕ) → List End → List ℕ
torn_lines place names [] = []
torn_lines place names (end ∷ ends) = end_line (name_at names place) end ++ torn_lines (suc place) names ends
