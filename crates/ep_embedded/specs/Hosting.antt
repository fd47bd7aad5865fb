-- A node whose log is in its caller's hands.
use Rattle.std.specs.Prelude.{◌≡◌, ◌≤◌, ℕ, ◌+◌, ◌++◌, Bool, true, false, List, length, take, drop, Option, Some, None, refl}
use Rattle.std.specs.Borrow.{u8}
use Rattle.std.specs.Coded.{Coded, code_by, coded×, coded_ℕ, coded_bool, coded_list, coded_option}
use Rattle.std.specs.contracts.alloc.Global as global
use Rattle.std.specs.contracts.impls.GlobalAllocator.TheImpl.{ghosts}
use Rattle.std.specs.contracts.vec.Vec as vec
use Rattle.std.specs.declared.alloc.Global.{Global}
use Rattle.std.specs.declared.vec.Vec.{Vec}
use Rattle.ep_device.specs.contracts.host_device.HostDevice as host_facts
use Rattle.ep_device.specs.declared.host_device.HostDevice.{HostDevice}
use Rattle.ep_journal.specs.declared.entry.Entry.{Entry}
use Rattle.ep_log.specs.Bytes.{records_in}
use Rattle.ep_log.specs.declared.log_version.LogVersion.TheVariants.{Three}
use Rattle.ep_node.specs.Nodes.{IsLogOf, IsQuiet, Logged, logged_code, origin_of, said}
use Rattle.ep_replica.specs.Kept.{Kept}
use Rattle.ep_serve.specs.contracts.pending_answer.PendingAnswer as due_facts
use Rattle.ep_serve.specs.declared.pending_answer.PendingAnswer.{PendingAnswer}

-- bytes in memory, where they stand
abbrev pub Buffer : Type 0
Buffer = Vec ℕ Global

abbrev pub buffer_code : Coded Buffer
buffer_code = (vec.the_row u8 global.the_row ghosts).coded

-- The node, in which what is lent counts as written; the bytes that its caller is to write; whether they take the place of the whole log; how many entries
-- are on the disk; the answers of requests that wait; answers that were made and not reported, of the node with so many entries; and the bytes that were reported last.
pub record Hosting : Type 0 where
  pub node : Logged HostDevice
  pub lent : Option Buffer
  pub is_anew : Bool
  pub durable : ℕ
  pub dues : List PendingAnswer
  pub held : Option Buffer
  pub until : ℕ
  pub answers : Buffer

abbrev pub hosting_code : Coded Hosting
hosting_code =
    code_by (Logged HostDevice × (Option Buffer × (Bool × (ℕ × (List PendingAnswer × (Option Buffer × (ℕ × Buffer)))))))
    (coded× (logged_code host_facts.the_row.coded) (coded× (coded_option buffer_code) (coded× coded_bool (coded× coded_ℕ
    (coded× (coded_list due_facts.the_row.coded) (coded× (coded_option buffer_code) (coded× coded_ℕ buffer_code)))))))
    (λ h. (h.node, (h.lent, (h.is_anew, (h.durable, (h.dues, (h.held, (h.until, h.answers))))))))
    (λ p. record { node = p.0; lent = p.1.0; is_anew = p.1.1.0; durable = p.1.1.1.0; dues = p.1.1.1.1.0; held = p.1.1.1.1.1.0; until = p.1.1.1.1.1.1.0; answers = p.1.1.1.1.1.1.1 })
    (λ _. refl)

-- the bytes are the records of the entries that the node has written and that weren't durable, behind a log of so many bytes, which is on the disk
pub record AreRecords (n : Logged HostDevice) (durable : ℕ) (bytes : List ℕ) : Type 0 where
  pub before : ℕ
  pub within : durable ≤ n.synced
  pub are : bytes ≡ records_in Three n.replica.version before (said before (drop durable (take n.synced n.replica.entries)))
  pub end : n.on_disk ≡ before + length bytes

-- What is lent: nothing, where all that the node has written is on the disk; the whole log of a node all of whose entries are in it; or the records of those
-- entries that aren't on the disk.
abbrev pub IsLent : Logged HostDevice → Bool → ℕ → Option Buffer → Type 0
IsLent n is_anew durable None = (is_anew ≡ false) × (durable ≡ n.synced)
IsLent n true durable (Some buffer) = IsQuiet n × IsLogOf (origin_of n) n.replica.faults n.replica.me (take n.synced n.replica.entries) n.on_disk buffer.items
IsLent n false durable (Some buffer) = AreRecords n durable buffer.items

-- it works, and lends what it is to
pub record IsHosted (n : Logged HostDevice) (is_anew : Bool) (durable : ℕ) (lent : Option Buffer) : Type 0 where
  pub works : n.closed ≡ false
  pub within : n.synced ≤ length n.replica.entries
  pub lends : IsLent n is_anew durable lent

-- all that it took is on the disk
pub record IsOnDisk (h : Hosting) : Type 0 where
  pub none : h.lent ≡ None
  pub quiet : IsQuiet h.node

-- what the replica took it has behind what it had
pub record Grows (k k' : Kept) : Type 0 where
  pub more : List Entry
  pub is : k' ≡ record k { entries = k.entries ++ more }

-- with another replica, and all else as it is
abbrev pub with_replica : Hosting → Kept → Hosting
with_replica h k = record h { node = record h.node { replica = k } }
