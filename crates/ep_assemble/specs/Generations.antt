-- The bundle that a generation's logs make, of what the folders of its machines have, and the first fault of those that make none.
use Rattle.std.specs.Prelude.{◌≡◌, ◌≢◌, ℕ, min, List, [], ◌∷◌, Some, All, take, slice_get}
use Rattle.ep_base.specs.Quorums.{size}
use Rattle.ep_base.specs.declared.version_kind.VersionKind.TheVariants.{V3}
use Rattle.ep_assemble.specs.Clusters.{Collects}
use Rattle.ep_assemble.specs.Clusters.{IsRefused as IsUncollected}
use Rattle.ep_assemble.specs.declared.collect_fault.CollectFault.{CollectFault}
use Rattle.ep_journal.specs.Entries.{Collected, Log as Journal}
use Rattle.ep_journal.specs.Openings.{Opening as Begun}
use Rattle.ep_log.specs.Origins.{Origin}
use Rattle.ep_log.specs.Refusing.{IsRefused as IsNoLog}
use Rattle.ep_opening.specs.Bytes.{file_digest, opening_bytes}
use Rattle.ep_opening.specs.Files.{File}
use Rattle.ep_opening.specs.Reading.{IsRefused as IsNoFile}
use Rattle.ep_opening.specs.declared.opening_fault.OpeningFault.{OpeningFault}
use Rattle.ep_opening.specs.declared.opening_fault.OpeningFault.TheVariants as opening_
use Rattle.ep_assemble.specs.Logs.{IsBundled, IsNotRead, IsOfLog, IsReadTo}
use Rattle.ep_assemble.specs.Receipts.{AreTooMany, IsFirstSpoiled}
use Rattle.ep_assemble.specs.declared.assemble_fault.AssembleFault.TheVariants.{Memory, Log, Collect, Receipts, TooManyReceipts}
use Rattle.ep_assemble.specs.declared.assembled.End.{End}
use Rattle.ep_assemble.specs.declared.opened_cluster.OpenedCluster.{OpenedCluster}
use Rattle.ep_assemble.specs.declared.differing.Differing.{Differing}
use Rattle.ep_assemble.specs.declared.differing.Differing.TheVariants as differing
use Rattle.ep_assemble.specs.declared.generation_fault.GenerationFault.{GenerationFault}
use Rattle.ep_assemble.specs.declared.generation_fault.GenerationFault.TheVariants.{NoLog, Opening, Other, LogSize, Assemble}
use Rattle.ep_assemble.specs.declared.opened_log.OpenedLog.{OpenedLog}

-- where the opening is a file, the log names its digest
abbrev pub NamesItsFile : OpenedLog → Type 0
NamesItsFile kept = (file : File) → kept.opening.items ≡ opening_bytes file → kept.digest ≡ file_digest file

-- Opening files.

-- each opening is the bytes of this file
abbrev pub AreFiles : List OpenedLog → List File → Type 0
AreFiles [] [] = Unit {0}
AreFiles (kept ∷ rest) (file ∷ files) = (kept.opening.items ≡ opening_bytes file) × AreFiles rest files
AreFiles _ _ = ⊥

-- the file is one of generation g, of the cluster's size and with the map of the first one
pub record IsLike (g : ℕ) (first file : File) : Type 0 where
  pub generation : file.generation ≡ g
  pub size : file.faults ≡ first.faults
  pub contents : file.opening.contents ≡ first.opening.contents

-- the least of s and of the stamps that these go on from
abbrev pub least_since : ℕ → List File → ℕ
least_since s [] = s
least_since s (file ∷ files) = least_since (min s file.opening.base_stamp) files

-- what all journals open with: the map of all files, and the least of their stamps
abbrev pub common : File → List File → Begun
common first files = record { contents = first.opening.contents; base_stamp = least_since first.opening.base_stamp files }

-- the files are those of one cluster in generation g, and this is the cluster
pub record IsClusterOf (g : ℕ) (files : List File) (c : OpenedCluster) : Type 0 where
  pub first : File
  pub stands : slice_get files 0 ≡ Some first
  pub alike : All (IsLike g first) files
  pub generation : c.generation ≡ g
  pub size : c.size ≡ first.faults
  pub opening : c.opening ≡ common first files

-- the openings are the files of this cluster in generation g
pub record HaveOpened (g : ℕ) (kept : List OpenedLog) (c : OpenedCluster) : Type 0 where
  pub files : List File
  pub are : AreFiles kept files
  pub of : IsClusterOf g files c

-- and this is said of it
abbrev pub OfCluster : ℕ → List OpenedLog → (OpenedCluster → Type 0) → Type 0
OfCluster g kept P = (c : OpenedCluster) × HaveOpened g kept c × P c

-- Logs.

-- the replica of a machine begins with what all journals open with, and its log names what this one opened with, by its digest
abbrev pub origin_in : OpenedCluster → OpenedLog → Origin
origin_in c kept = record { version = V3 c.generation; opening = c.opening; digest = kept.digest }

-- the log is one of a replica that opened with what stands beside it, in a cluster of this size, and has this journal, up to its torn end where it has one
pub record IsKept (c : OpenedCluster) (kept : OpenedLog) (j : Journal) (end : End) : Type 0 where
  pub read : IsReadTo (origin_in c kept) kept.log.items j end
  pub size : j.faults ≡ c.size

abbrev pub AreKept : OpenedCluster → List OpenedLog → List Journal → List End → Type 0
AreKept c [] [] [] = Unit {0}
AreKept c (kept ∷ rest) (journal ∷ journals) (end ∷ ends) = IsKept c kept journal end × AreKept c rest journals ends
AreKept _ _ _ _ = ⊥

-- the text is the bundle of the journals that the logs hold, and of the receipts that the files hold
pub record IsAssembledIn (c : OpenedCluster) (kept : List OpenedLog) (files : List (List ℕ)) (text : List ℕ) (ends receipt_ends : List End) : Type 0 where
  pub journals : List Journal
  pub read : AreKept c kept journals ends
  pub collected : Collected
  pub collects : Collects journals collected
  pub bundled : IsBundled collected files text receipt_ends

-- the same of a generation
abbrev pub IsAssembledOf : ℕ → List OpenedLog → List (List ℕ) → List ℕ → List End → List End → Type 0
IsAssembledOf g kept files text ends receipt_ends = OfCluster g kept (λ c. IsAssembledIn c kept files text ends receipt_ends)

-- Faults of opening files.

-- a file's fault, other than out of memory
abbrev pub IsOfOpening : OpeningFault → Type 0
IsOfOpening opening_.Memory = ⊥
IsOfOpening (opening_.CutShort at) = Unit {0}
IsOfOpening (opening_.Damaged at) = Unit {0}
IsOfOpening (opening_.Wrong at field) = Unit {0}

-- the opening at the place is no file for this reason, and those before it are files
pub record IsFirstUnopened (place : ℕ) (fault : OpeningFault) (kept : List OpenedLog) : Type 0 where
  pub files : List File
  pub before : AreFiles (take place kept) files
  pub one : OpenedLog
  pub stands : slice_get kept place ≡ Some one
  pub of : IsOfOpening fault
  pub refused : IsNoFile fault one.opening.items

-- in what the file is the first one that isn't like the others
abbrev pub Differs : Differing → ℕ → File → File → Type 0
Differs differing.Generation g first file = file.generation ≢ g
Differs differing.Size g first file = (file.generation ≡ g) × (file.faults ≢ first.faults)
Differs differing.Map g first file = (file.generation ≡ g) × (file.faults ≡ first.faults) × (file.opening.contents ≢ first.opening.contents)

-- the file at the place differs so from the first one, and those before it don't
pub record IsFirstOther (g : ℕ) (first : File) (place : ℕ) (how : Differing) (files : List File) : Type 0 where
  pub before : All (IsLike g first) (take place files)
  pub file : File
  pub stands : slice_get files place ≡ Some file
  pub differs : Differs how g first file

-- as the first file says which cluster it is
abbrev pub IsOfAnother : ℕ → ℕ → Differing → List File → Type 0
IsOfAnother g place how files = (first : File) × (slice_get files 0 ≡ Some first) × IsFirstOther g first place how files

-- the openings are files, and this is said of them
pub record OfFiles (kept : List OpenedLog) (P : List File → Type 0) : Type 0 where
  pub files : List File
  pub are : AreFiles kept files
  pub holds : P files

-- why the openings are not those of one cluster in generation g
abbrev pub AreUnopened : ℕ → List OpenedLog → GenerationFault → Type 0
AreUnopened g kept NoLog = OfFiles kept (λ files. files ≡ [])
AreUnopened g kept (Opening place fault) = IsFirstUnopened place fault kept
AreUnopened g kept (Other place how) = OfFiles kept (IsOfAnother g place how)
AreUnopened g kept (LogSize place) = ⊥
AreUnopened g kept (Assemble Memory) = Unit {0}
AreUnopened g kept (Assemble (Log place fault)) = ⊥
AreUnopened g kept (Assemble (Collect fault)) = ⊥
AreUnopened g kept (Assemble (Receipts place at)) = ⊥
AreUnopened g kept (Assemble TooManyReceipts) = ⊥

-- Faults of logs, and of receipts.

-- those before the place are logs of the cluster, and this is said of the one at the place
pub record IsFirstAt (c : OpenedCluster) (place : ℕ) (kept : List OpenedLog) (P : OpenedLog → Type 0) : Type 0 where
  pub journals : List Journal
  pub ends : List End
  pub before : AreKept c (take place kept) journals ends
  pub one : OpenedLog
  pub stands : slice_get kept place ≡ Some one
  pub holds : P one

-- a log of a cluster of another size
pub record IsOfOtherSize (c : OpenedCluster) (kept : OpenedLog) : Type 0 where
  pub journal : Journal
  pub end : End
  pub read : IsReadTo (origin_in c kept) kept.log.items journal end
  pub other : journal.faults ≢ c.size

-- all logs are the cluster's, and their journals aren't one for each replica, for this reason
pub record AreNoCluster (c : OpenedCluster) (kept : List OpenedLog) (fault : CollectFault) : Type 0 where
  pub journals : List Journal
  pub ends : List End
  pub read : AreKept c kept journals ends
  pub refused : IsUncollected fault journals

-- all logs are the cluster's, one for each replica, and so it is
pub record AreOneEach (c : OpenedCluster) (kept : List OpenedLog) (P : Type 0) : Type 0 where
  pub journals : List Journal
  pub ends : List End
  pub read : AreKept c kept journals ends
  pub collected : Collected
  pub collects : Collects journals collected
  pub holds : P

-- why the logs of this cluster, and these files of receipts, make no bundle
abbrev pub IsUnassembled : OpenedCluster → List OpenedLog → List (List ℕ) → GenerationFault → Type 0
IsUnassembled c kept files NoLog = ⊥
IsUnassembled c kept files (Opening place fault) = ⊥
IsUnassembled c kept files (Other place how) = ⊥
IsUnassembled c kept files (LogSize place) = IsFirstAt c place kept (IsOfOtherSize c)
IsUnassembled c kept files (Assemble Memory) = Unit {0}
IsUnassembled c kept files (Assemble (Log place fault)) = IsFirstAt c place kept (λ one. IsOfLog fault × IsNoLog (origin_in c one) fault one.log.items)
IsUnassembled c kept files (Assemble (Collect fault)) = AreNoCluster c kept fault
IsUnassembled c kept files (Assemble (Receipts place at)) = AreOneEach c kept (IsFirstSpoiled (V3 c.generation) (size c.size) place at files)
IsUnassembled c kept files (Assemble TooManyReceipts) = AreOneEach c kept (AreTooMany (V3 c.generation) (size c.size) files)

-- the first fault: of the opening files, then of the logs, and then of the files of receipts
abbrev pub IsRefusedIn : ℕ → List OpenedLog → List (List ℕ) → GenerationFault → Type 0
IsRefusedIn g kept files NoLog = AreUnopened g kept NoLog
IsRefusedIn g kept files (Opening place fault) = AreUnopened g kept (Opening place fault)
IsRefusedIn g kept files (Other place how) = AreUnopened g kept (Other place how)
IsRefusedIn g kept files (LogSize place) = OfCluster g kept (λ c. IsUnassembled c kept files (LogSize place))
IsRefusedIn g kept files (Assemble Memory) = Unit {0}
IsRefusedIn g kept files (Assemble (Log place fault)) = OfCluster g kept (λ c. IsUnassembled c kept files (Assemble (Log place fault)))
IsRefusedIn g kept files (Assemble (Collect fault)) = OfCluster g kept (λ c. IsUnassembled c kept files (Assemble (Collect fault)))
IsRefusedIn g kept files (Assemble (Receipts place at)) = OfCluster g kept (λ c. IsUnassembled c kept files (Assemble (Receipts place at)))
IsRefusedIn g kept files (Assemble TooManyReceipts) = OfCluster g kept (λ c. IsUnassembled c kept files (Assemble TooManyReceipts))

-- Parts of the reader.

-- why these bytes, at this place, are no file
abbrev pub IsNotOpened : ℕ → List ℕ → GenerationFault → Type 0
IsNotOpened place bytes NoLog = ⊥
IsNotOpened place bytes (Opening at fault) = (at ≡ place) × IsOfOpening fault × IsNoFile fault bytes
IsNotOpened place bytes (Other at how) = ⊥
IsNotOpened place bytes (LogSize at) = ⊥
IsNotOpened place bytes (Assemble Memory) = Unit {0}
IsNotOpened place bytes (Assemble (Log at fault)) = ⊥
IsNotOpened place bytes (Assemble (Collect fault)) = ⊥
IsNotOpened place bytes (Assemble (Receipts p at)) = ⊥
IsNotOpened place bytes (Assemble TooManyReceipts) = ⊥

-- why the openings are no files
abbrev pub AreNoFiles : List OpenedLog → GenerationFault → Type 0
AreNoFiles kept NoLog = ⊥
AreNoFiles kept (Opening place fault) = IsFirstUnopened place fault kept
AreNoFiles kept (Other place how) = ⊥
AreNoFiles kept (LogSize place) = ⊥
AreNoFiles kept (Assemble Memory) = Unit {0}
AreNoFiles kept (Assemble (Log place fault)) = ⊥
AreNoFiles kept (Assemble (Collect fault)) = ⊥
AreNoFiles kept (Assemble (Receipts place at)) = ⊥
AreNoFiles kept (Assemble TooManyReceipts) = ⊥

abbrev pub of_opening : ℕ → OpeningFault → GenerationFault
of_opening place opening_.Memory = Assemble Memory
of_opening place (opening_.CutShort at) = Opening place (opening_.CutShort at)
of_opening place (opening_.Damaged at) = Opening place (opening_.Damaged at)
of_opening place (opening_.Wrong at field) = Opening place (opening_.Wrong at field)

-- why the files are not those of one cluster in generation g
abbrev pub AreOfNone : ℕ → List File → GenerationFault → Type 0
AreOfNone g files NoLog = files ≡ []
AreOfNone g files (Opening place fault) = ⊥
AreOfNone g files (Other place how) = IsOfAnother g place how files
AreOfNone g files (LogSize place) = ⊥
AreOfNone g files (Assemble Memory) = Unit {0}
AreOfNone g files (Assemble (Log place fault)) = ⊥
AreOfNone g files (Assemble (Collect fault)) = ⊥
AreOfNone g files (Assemble (Receipts place at)) = ⊥
AreOfNone g files (Assemble TooManyReceipts) = ⊥

-- why this, at this place, has no log of the cluster
abbrev pub IsNotKept : OpenedCluster → ℕ → OpenedLog → GenerationFault → Type 0
IsNotKept c place kept NoLog = ⊥
IsNotKept c place kept (Opening at fault) = ⊥
IsNotKept c place kept (Other at how) = ⊥
IsNotKept c place kept (LogSize at) = (at ≡ place) × IsOfOtherSize c kept
IsNotKept c place kept (Assemble fault) = IsNotRead (origin_in c kept) place kept.log.items fault

-- why the logs are not those of the cluster
abbrev pub AreNotKept : OpenedCluster → List OpenedLog → GenerationFault → Type 0
AreNotKept c kept NoLog = ⊥
AreNotKept c kept (Opening place fault) = ⊥
AreNotKept c kept (Other place how) = ⊥
AreNotKept c kept (LogSize place) = IsFirstAt c place kept (IsOfOtherSize c)
AreNotKept c kept (Assemble Memory) = Unit {0}
AreNotKept c kept (Assemble (Log place fault)) = IsFirstAt c place kept (λ one. IsOfLog fault × IsNoLog (origin_in c one) fault one.log.items)
AreNotKept c kept (Assemble (Collect fault)) = ⊥
AreNotKept c kept (Assemble (Receipts place at)) = ⊥
AreNotKept c kept (Assemble TooManyReceipts) = ⊥
