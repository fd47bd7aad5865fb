-- What a node lends and reports.
use Rattle.std.specs.Prelude.{◌≡◌, ◌≢◌, ◌⊎◌, ℕ, ◌+◌, ◌<◌, ◌≤◌, ◌^◌, ◌++◌, Bool, true, false, List, [], length, take, Some, None}
use Rattle.ep_exec.specs.Bytes.{contents_bytes}
use Rattle.ep_node.specs.Closing as node
use Rattle.ep_node.specs.Nodes.{IsLogOf, IsQuiet, origin_of, unwritten}
use Rattle.ep_node.specs.declared.close_fault.CloseFault.{CloseFault}
use Rattle.ep_node.specs.declared.close_fault.CloseFault.TheVariants as close
use Rattle.ep_opening.specs.Bytes.{opening_bytes}
use Rattle.ep_opening.specs.Closing.{IsClosing}
use Rattle.ep_opening.specs.Files.{File}
use Rattle.ep_replica.specs.Pending.{state_of}
use Rattle.ep_rules.specs.OneMap.{value_at}
use Rattle.ep_serve.specs.Answering.{AllAnswered}
use Rattle.ep_embedded.specs.Hosting.{Buffer, Hosting, IsOnDisk}
use Rattle.ep_embedded.specs.declared.prepare_fault.PrepareFault.{PrepareFault}
use Rattle.ep_embedded.specs.declared.prepare_fault.PrepareFault.TheVariants as prepare
use Rattle.ep_embedded.specs.declared.sync_fault.SyncFault.{SyncFault}
use Rattle.ep_embedded.specs.declared.sync_fault.SyncFault.TheVariants as sync
use Rattle.ep_embedded.specs.declared.report_fault.ReportFault.{ReportFault}
use Rattle.ep_embedded.specs.declared.report_fault.ReportFault.TheVariants.{Memory, Unsynced}

-- the records of all that wasn't written are lent, and count as written
pub record LendsNow (h h' : Hosting) : Type 0 where
  pub bytes : Buffer
  pub are : bytes.items ≡ unwritten h.node
  pub is :
      h' ≡ record h {
        node = record h.node { device = h'.node.device; synced = length h.node.replica.entries; on_disk = h.node.on_disk + length bytes.items };
        lent = Some bytes;
      }

-- What is lent: what was lent before; nothing, where all is on the disk; or else the records of the entries that aren't.
abbrev pub HasLent : Hosting → Hosting → Type 0
HasLent h h' = ((h.lent ≢ None) × (h' ≡ h)) ⊎ (IsOnDisk h × (h' ≡ h)) ⊎ ((h.lent ≡ None) × (¬ IsOnDisk h) × LendsNow h h')

-- what was lent, so many bytes, is on the disk; what was taken since isn't
pub record IsNoted (h : Hosting) (count : ℕ) (h' : Hosting) : Type 0 where
  pub bytes : Buffer
  pub lent : h.lent ≡ Some bytes
  pub long : length bytes.items ≡ count
  pub is : h' ≡ record h { durable = h.node.synced; lent = None; is_anew = false }

-- the same; or nothing was lent, and no bytes are said to be there
abbrev pub HasNoted : Hosting → ℕ → Hosting → Type 0
HasNoted h count h' = IsNoted h count h' ⊎ ((h.lent ≡ None) × (count ≡ 0) × (h' ≡ h))

-- the log behind which the bytes are written, or whose place they take, and then
abbrev pub log_after : Bool → List ℕ → List ℕ → List ℕ
log_after true log bytes = bytes
log_after false log bytes = log ++ bytes

-- the log of the node's first entries, so many, of so many bytes
abbrev pub IsLogTo : Hosting → ℕ → ℕ → List ℕ → Type 0
IsLogTo h count len bytes = IsLogOf (origin_of h.node) h.node.replica.faults h.node.replica.me (take count h.node.replica.entries) len bytes

-- Where the bytes that were lent stand behind the log of the entries that were on the disk, or anew, they are the log of those that now are.
abbrev pub IsWritten : Hosting → Hosting → Type 0
IsWritten h h' =
    (log : List ℕ) → (bytes : Buffer) → h.lent ≡ Some bytes → length log < 2 ^ 64
    → (h.is_anew ≡ false → IsLogTo h h.durable (length log) log × (h.node.on_disk ≡ length log + length bytes.items))
    → IsLogTo h' h'.durable h'.node.on_disk (log_after h.is_anew log bytes.items)

-- why it isn't
abbrev pub IsUnnoted : Hosting → ℕ → SyncFault → Type 0
IsUnnoted h count sync.NotLent = (h.lent ≡ None) × (count ≢ 0)
IsUnnoted h count sync.NotAll = (bytes : Buffer) × (h.lent ≡ Some bytes) × (length bytes.items ≢ count)

-- all was on the disk, and what waited was reported, and what there is to report
pub record HasAnswered (h : Hosting) (after most : ℕ) (h' : Hosting) : Type 0 where
  pub on_disk : IsOnDisk h
  pub reported : AllAnswered h.node.replica h.dues after most h'.answers.items
  pub is : h' ≡ record h { dues = []; answers = h'.answers }

-- why nothing is reported
abbrev pub IsUnreported : Hosting → ReportFault → Type 0
IsUnreported h Memory = IsOnDisk h
IsUnreported h Unsynced = ¬ IsOnDisk h

-- Answers that are made while what they report is lent.

-- all that the node took is lent, or on the disk, and what waited and what there is to report are answers that are held
pub record HasPrepared (h : Hosting) (after most : ℕ) (h' : Hosting) : Type 0 where
  pub lent : IsQuiet h.node
  pub none : h.held ≡ None
  pub bytes : Buffer
  pub reports : AllAnswered h.node.replica h.dues after most bytes.items
  pub is : h' ≡ record h { dues = []; held = Some bytes; until = length h.node.replica.entries }

-- why none are
abbrev pub IsUnprepared : Hosting → PrepareFault → Type 0
IsUnprepared h prepare.Memory = (h.held ≡ None) × IsQuiet h.node
IsUnprepared h prepare.Unlent = (h.held ≡ None) × (¬ IsQuiet h.node)
IsUnprepared h prepare.Unreported = h.held ≢ None

-- the log has begun, and the entries that the held answers report are on the disk
pub record MayReport (h : Hosting) : Type 0 where
  pub begun : h.is_anew ≡ false
  pub durable : h.until ≤ h.durable

-- they are reported; or there are none
abbrev pub HasReported : Hosting → Bool → Hosting → Type 0
HasReported h true h' = (bytes : Buffer) × (h.held ≡ Some bytes) × MayReport h × (h' ≡ record h { held = None; answers = bytes })
HasReported h false h' = (h.held ≡ None) × (h' ≡ h)

-- why not
abbrev pub IsWithheld : Hosting → ReportFault → Type 0
IsWithheld h fault = (fault ≡ Unsynced) × (h.held ≢ None) × (¬ MayReport h)

-- all was on the disk, and the value that the map has at the key was reported; or it has none
abbrev pub HasLooked : Hosting → List ℕ → Bool → Hosting → Type 0
HasLooked h key true h' = IsOnDisk h × (value_at (state_of h.node.replica).store.contents key ≡ Some h'.answers.items) × (h' ≡ record h { answers = h'.answers })
HasLooked h key false h' = IsOnDisk h × (value_at (state_of h.node.replica).store.contents key ≡ None) × (h' ≡ h)

-- all was on the disk, and what all keys have was reported
abbrev pub HasListed : Hosting → Hosting → Type 0
HasListed h h' = IsOnDisk h × (h'.answers.items ≡ contents_bytes (state_of h.node.replica).store.contents) × (h' ≡ record h { answers = h'.answers })

-- all was on the disk, a seal was executed, and the file of the generation after is reported
pub record HasClosed (h : Hosting) (next : ℕ) (h' : Hosting) : Type 0 where
  pub on_disk : IsOnDisk h
  pub file : File
  pub closing : IsClosing h.node.replica next file
  pub reported : h'.answers.items ≡ opening_bytes file
  pub is : h' ≡ record h { answers = h'.answers }

-- why it isn't
abbrev pub IsUnclosed : Hosting → CloseFault → Type 0
IsUnclosed h close.Memory = IsOnDisk h
IsUnclosed h close.NotSealed = IsOnDisk h × node.IsUnclosed h.node close.NotSealed
IsUnclosed h close.LastGeneration = IsOnDisk h × node.IsUnclosed h.node close.LastGeneration
IsUnclosed h close.Unsynced = ¬ IsOnDisk h
IsUnclosed h close.Closed = ⊥
