-- The bundle that logs make, and the first fault of those that make none.
use Rattle.std.specs.Prelude.{◌≡◌, ℕ, ltb, List, [], ◌∷◌, Some, map, take, slice_get}
use Rattle.std.specs.Global.{Vec}
use Rattle.ep_base.specs.Quorums.{size}
use Rattle.ep_base.specs.declared.version.Version.{Version}
use Rattle.ep_bundle.specs.Bytes.{bundle_bytes}
use Rattle.ep_assemble.specs.Clusters.{Collects}
use Rattle.ep_assemble.specs.Clusters.{IsRefused as IsUncollected}
use Rattle.ep_assemble.specs.declared.collect_fault.CollectFault.{CollectFault}
use Rattle.ep_journal.specs.Entries.{Collected, Log as Journal}
use Rattle.ep_log.specs.Origins.{Origin, second}
use Rattle.ep_log.specs.Reading.{IsRead}
use Rattle.ep_log.specs.Refusing.{IsRefused as IsNoLog}
use Rattle.ep_log.specs.declared.log_fault.LogFault.{LogFault}
use Rattle.ep_log.specs.declared.log_fault.LogFault.TheVariants as log
use Rattle.ep_log.specs.declared.log_version.LogVersion.{LogVersion}
use Rattle.ep_rules.specs.declared.receipt.Receipt.{Receipt}
use Rattle.ep_assemble.specs.Receipts.{AreHeld, AreTooMany, IsFirstSpoiled}
use Rattle.ep_assemble.specs.declared.assembled.End.{End}
use Rattle.ep_assemble.specs.declared.assemble_fault.AssembleFault.{AssembleFault}
use Rattle.ep_assemble.specs.declared.assemble_fault.AssembleFault.TheVariants.{Memory, Log, Collect, Receipts, TooManyReceipts}

-- the bytes of each
abbrev pub contents : List (Vec ℕ) → List (List ℕ)
contents vs = map (λ v. v.items) vs

-- a log, in either version, of this journal of a replica of this origin; it ends here, and is torn where bytes stand behind that
pub record IsReadTo (o : Origin) (bytes : List ℕ) (j : Journal) (end : End) : Type 0 where
  pub version : LogVersion
  pub behind : ℕ
  pub read : IsRead o bytes version j end.whole behind
  pub torn : end.is_torn ≡ ltb 0 behind

-- each is a log, of this journal of version 2, up to its torn end where it has one
abbrev pub AreRead : List (List ℕ) → List Journal → List End → Type 0
AreRead [] [] [] = Unit {0}
AreRead (bytes ∷ logs) (journal ∷ journals) (end ∷ ends) = IsReadTo second bytes journal end × AreRead logs journals ends
AreRead _ _ _ = ⊥

-- the text is the bundle of these journals and of the receipts that the files hold
pub record IsBundled (c : Collected) (files : List (List ℕ)) (text : List ℕ) (ends : List End) : Type 0 where
  pub receipts : List Receipt
  pub held : AreHeld c.version (size c.faults) files receipts ends
  pub is : text ≡ bundle_bytes c receipts

-- the text is the bundle of the journals that the logs hold, and of the receipts that the files hold
pub record IsAssembled (logs files : List (List ℕ)) (text : List ℕ) (ends receipt_ends : List End) : Type 0 where
  pub journals : List Journal
  pub read : AreRead logs journals ends
  pub collected : Collected
  pub collects : Collects journals collected
  pub bundled : IsBundled collected files text receipt_ends

-- a log's fault, other than out of memory
abbrev pub IsOfLog : LogFault → Type 0
IsOfLog log.Memory = ⊥
IsOfLog log.NoHeader = Unit {0}
IsOfLog log.OtherVersion = Unit {0}
IsOfLog log.OtherGeneration = Unit {0}
IsOfLog (log.BadLength at) = Unit {0}
IsOfLog (log.BadChecksum at) = Unit {0}
IsOfLog (log.BadEntry at) = Unit {0}
IsOfLog (log.NotNext at) = Unit {0}
IsOfLog (log.Turned at by) = Unit {0}

-- these are the bytes at the place, they are no log for this reason, and those before them are logs
pub record IsFirstRefused (place : ℕ) (fault : LogFault) (logs : List (List ℕ)) : Type 0 where
  pub journals : List Journal
  pub ends : List End
  pub before : AreRead (take place logs) journals ends
  pub bytes : List ℕ
  pub stands : slice_get logs place ≡ Some bytes
  pub of : IsOfLog fault
  pub refused : IsNoLog second fault bytes

-- all are logs, and their journals aren't one for each replica of one cluster, for this reason
pub record IsNoCluster (fault : CollectFault) (logs : List (List ℕ)) : Type 0 where
  pub journals : List Journal
  pub ends : List End
  pub read : AreRead logs journals ends
  pub refused : IsUncollected fault journals

-- all are logs, their journals are those of one cluster, and this is said of its version and its size
pub record AreOfCluster (logs : List (List ℕ)) (P : Version → ℕ → Type 0) : Type 0 where
  pub journals : List Journal
  pub ends : List End
  pub read : AreRead logs journals ends
  pub collected : Collected
  pub collects : Collects journals collected
  pub holds : P collected.version (size collected.faults)

-- the first fault, of the logs and then of the files of receipts
abbrev pub IsRefused : AssembleFault → List (List ℕ) → List (List ℕ) → Type 0
IsRefused Memory logs files = Unit {0}
IsRefused (Log place fault) logs files = IsFirstRefused place fault logs
IsRefused (Collect fault) logs files = IsNoCluster fault logs
IsRefused (Receipts place at) logs files = AreOfCluster logs (λ w n. IsFirstSpoiled w n place at files)
IsRefused TooManyReceipts logs files = AreOfCluster logs (λ w n. AreTooMany w n files)

-- the first fault of a log
abbrev pub IsLogRefused : AssembleFault → List (List ℕ) → Type 0
IsLogRefused Memory logs = Unit {0}
IsLogRefused (Log place fault) logs = IsFirstRefused place fault logs
IsLogRefused (Collect fault) logs = ⊥
IsLogRefused (Receipts place at) logs = ⊥
IsLogRefused TooManyReceipts logs = ⊥

-- why these bytes, at this place, are no log of a replica of this origin
abbrev pub IsNotRead : Origin → ℕ → List ℕ → AssembleFault → Type 0
IsNotRead o place bytes Memory = Unit {0}
IsNotRead o place bytes (Log at fault) = (at ≡ place) × IsOfLog fault × IsNoLog o fault bytes
IsNotRead o place bytes (Collect fault) = ⊥
IsNotRead o place bytes (Receipts p at) = ⊥
IsNotRead o place bytes TooManyReceipts = ⊥

abbrev pub of_log : ℕ → LogFault → AssembleFault
of_log place log.Memory = Memory
of_log place log.NoHeader = Log place log.NoHeader
of_log place log.OtherVersion = Log place log.OtherVersion
of_log place log.OtherGeneration = Log place log.OtherGeneration
of_log place (log.BadLength at) = Log place (log.BadLength at)
of_log place (log.BadChecksum at) = Log place (log.BadChecksum at)
of_log place (log.BadEntry at) = Log place (log.BadEntry at)
of_log place (log.NotNext at) = Log place (log.NotNext at)
of_log place (log.Turned at by) = Log place (log.Turned at by)
