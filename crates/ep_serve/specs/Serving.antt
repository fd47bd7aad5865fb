-- What a node serves: requests that are read in order, each of which acts on its replica, and their answers, in the same order. Answers are
-- written in batches, each when all that the node took is on its disk, as the node then is.
use Rattle.std.specs.Prelude.{◌≡◌, ◌⊎◌, ℕ, zero, suc, ◌<◌, Bool, true, false, List, [], ◌∷◌, ◌++◌, length, Option, Some, None, Result, Ok, Err, IsErr}
use Rattle.std.specs.Io.KnownBytes.{Appends}
use Rattle.ep_bundle.specs.Reading.{Left}
use Rattle.ep_device.specs.declared.system_fault.SystemFault.{SystemFault}
use Rattle.ep_node.specs.Nodes.{IsQuiet, Logged}
use Rattle.ep_replica.specs.Kept.{Kept}
use Rattle.ep_serve.specs.Acting.{Acts, IsCutShort}
use Rattle.ep_serve.specs.Answering.{AreAnswersTo, AnswersEach}
use Rattle.ep_serve.specs.Lasting.{Crashes, Lasts, LastsFrom}
use Rattle.ep_serve.specs.declared.pending_answer.PendingAnswer.{PendingAnswer}
use Rattle.ep_serve.specs.declared.mode.Mode.{Mode}
use Rattle.ep_serve.specs.declared.mode.Mode.TheVariants.{Asked}
use Rattle.ep_serve.specs.declared.serve_fault.ServeFault.{ServeFault}
use Rattle.ep_serve.specs.declared.serve_fault.ServeFault.TheVariants.{Memory, ReadFailed, BadRequest, WriteFailed, LogFailed}
use Rattle.ep_wire.specs.Requests.{next_request}
use Rattle.ep_bundle.specs.declared.journal_dialect.JournalDialect.{JournalDialect}
use Rattle.ep_wire.specs.declared.request.Request.{Request}
use Rattle.ep_wire.specs.declared.request.Request.TheVariants as request

-- what requests to a node of this replica are spelled in
abbrev pub dialect_of : Kept → JournalDialect
dialect_of k = record { version = k.version; size = k.faults; me = k.me }

-- the requests stand there, one after the other, in a node's dialect
abbrev pub AreRead : JournalDialect → Left → List Request → Left → Type 0
AreRead how l [] l' = l' ≡ l
AreRead how l (r ∷ rs) l' = (m : Left) × (next_request how l ≡ Ok (Some r, m)) × AreRead how m rs l'

-- Which answers may wait.

abbrev pub is_sync : Request → Bool
is_sync (request.Event happening) = false
is_sync request.BadFrame = false
is_sync request.Advance = false
is_sync (request.Get key) = false
is_sync (request.NextOpen after) = false
is_sync (request.Leads i) = false
is_sync request.Sync = true
is_sync request.State = false
is_sync request.ExecuteAll = false
is_sync (request.Ready after most) = false
is_sync (request.Handled r) = false
is_sync (request.Interfering key) = false
is_sync (request.Read key found) = false
is_sync (request.Malformed m) = false

-- At a node with so many entries on the disk, which the request leaves so: its answer may wait. It isn't that of each request that is wanted, no sync is
-- asked for, and something that was taken isn't on the disk.
pub record MayWait (mode : Mode) (synced : ℕ) (r : Request) (k : Kept) : Type 0 where
  pub asked : mode ≡ Asked
  pub other : is_sync r ≡ false
  pub unsynced : synced < length k.entries

-- each acts, these answers are due, and all of them may wait
abbrev pub AllWait : Mode → ℕ → Kept → List Request → List PendingAnswer → Kept → Type 0
AllWait mode synced k [] ds k' = (ds ≡ []) × (k' ≡ k)
AllWait mode synced k (r ∷ rs) ds k' = (d : PendingAnswer) × (more : List PendingAnswer) × (m : Kept) × Acts k r d m × MayWait mode synced r m × AllWait mode synced m rs more k' × (ds ≡ d ∷ more)

-- Requests whose answers wait, of a replica all of whose entries are on the disk.
pub record Waiting (mode : Mode) (how : JournalDialect) (k : Kept) (l : Left) (ds : List PendingAnswer) (k' : Kept) (l' : Left) : Type 0 where
  pub requests : List Request
  pub read : AreRead how l requests l'
  pub acted : AllWait mode (length k.entries) k requests ds k'

-- Requests whose answers are written together: those that wait, and the first one whose answer may not. They are reported by the replica that they leave.
pub record IsBatch (mode : Mode) (how : JournalDialect) (k : Kept) (l : Left) (out : List ℕ) (k' : Kept) (l' : Left) : Type 0 where
  pub dues : List PendingAnswer
  pub before : Kept
  pub from : Left
  pub waiting : Waiting mode how k l dues before from
  pub last : Request
  pub read : next_request how from ≡ Ok (Some last, l')
  pub due : PendingAnswer
  pub acted : Acts before last due k'
  pub written : ¬ MayWait mode (length k.entries) last k'
  pub reported : AreAnswersTo k' (dues ++ due ∷ []) out

-- So many batches, one after the other. Of each the entries of the replica that reported it are on the disk from a moment on, which isn't after this one.
abbrev pub AreServed : ℕ → Mode → JournalDialect → Crashes → Kept → Left → List ℕ → Kept → Left → Type 0
AreServed zero mode how w k l out k' l' = (out ≡ []) × (k' ≡ k) × (l' ≡ l)
AreServed (suc b) mode how w k l out k' l' =
    (first rest : List ℕ) × (m : Kept) × (l1 : Left) × IsBatch mode how k l first m l1 × Lasts w m × AreServed b mode how w m l1 rest k' l' × (out ≡ first ++ rest)

-- In batches requests were answered, and nothing but these answers was written. What was on the disk at first is there at each moment.
pub record Serves (mode : Mode) (how : JournalDialect) (w : Crashes) (k : Kept) (l : Left) (old new : Option (List ℕ)) (k' : Kept) (l' : Left) : Type 0 where
  pub begun : LastsFrom w w.start k
  pub batches : ℕ
  pub out : List ℕ
  pub served : AreServed batches mode how w k l out k' l'
  pub appended : Appends old new out

-- requests are served up to `replica` and `from`, and those since then wait for their answers
pub record InService (mode : Mode) (how : JournalDialect) (w : Crashes) (k : Kept) (l : Left) (old new : Option (List ℕ)) (k' : Kept) (l' : Left) (dues : List PendingAnswer) : Type 0 where
  pub replica : Kept
  pub from : Left
  pub served : Serves mode how w k l old new replica from
  pub waiting : Waiting mode how replica from dues k' l'

-- all requests were answered, those too that waited at the end, which are reported in the same way
pub record ServesAll (mode : Mode) (how : JournalDialect) (w : Crashes) (k : Kept) (l : Left) (old new : Option (List ℕ)) (k' : Kept) (l' : Left) : Type 0 where
  pub dues : List PendingAnswer
  pub held : Option (List ℕ)
  pub before : InService mode how w k l old held k' l' dues
  pub lasts : Lasts w k'
  pub reported : AnswersEach k' dues held new

-- no request follows
abbrev pub IsOver : JournalDialect → Left → Type 0
IsOver how l = (m : Left) × (next_request how l ≡ Ok (None, m))

-- one request more was done, or it stopped when out of memory
abbrev pub DoesOne : Kept → Request → Kept → Type 0
DoesOne k r k' = ((d : PendingAnswer) × Acts k r d k') ⊎ IsCutShort k r k'

-- the next request, where it is one
abbrev pub DoesNext : JournalDialect → Kept → Left → Kept → Type 0
DoesNext how k l k' = (r : Request) × (m : Left) × (next_request how l ≡ Ok (Some r, m)) × DoesOne k r k'

-- Batches of requests were answered, others that were done waited for their answers, and then at most one more was done.
pub record BreaksOff (mode : Mode) (how : JournalDialect) (w : Crashes) (k : Kept) (l : Left) (old new : Option (List ℕ)) (k' : Kept) : Type 0 where
  pub before : Kept
  pub from : Left
  pub dues : List PendingAnswer
  pub service : InService mode how w k l old new before from dues
  pub last : (k' ≡ before) ⊎ DoesNext how before from k'

-- What is written when a node no longer serves, of its replica k' then: at the end of the input, where it can't be read, and where its bytes are no request,
-- all requests before were answered; when out of memory all, or some batches of those that were done; where the log failed, some batches; where writing failed, these
-- and what the sink made of one more, of which nothing is known but that what it reports is on the disk.
abbrev pub Ends : Mode → JournalDialect → Crashes → Kept → Left → Option (List ℕ) → Option (List ℕ) → Result Unit ServeFault → Kept → Type 0
Ends mode how w k l old new (Ok x) k' = (l' : Left) × ServesAll mode how w k l old new k' l' × IsOver how l'
Ends mode how w k l old new (Err Memory) k' = BreaksOff mode how w k l old new k' ⊎ ((l' : Left) × ServesAll mode how w k l old new k' l')
Ends mode how w k l old new (Err ReadFailed) k' = (l' : Left) × ServesAll mode how w k l old new k' l'
Ends mode how w k l old new (Err (BadRequest at)) k' = (l' : Left) × ServesAll mode how w k l old new k' l' × (at ≡ l'.at) × IsErr (next_request how l')
Ends mode how w k l old new (Err WriteFailed) k' = (held : Option (List ℕ)) × BreaksOff mode how w k l old held k' × Lasts w k'
Ends mode how w k l old new (Err (LogFailed cause)) k' = BreaksOff mode how w k l old new k'

-- Where all was answered, as far as the sink took it.
abbrev pub IfSettled : Result Unit ServeFault → Type 0 → Type 0
IfSettled (Ok x) P = P
IfSettled (Err Memory) P = Unit {0}
IfSettled (Err ReadFailed) P = P
IfSettled (Err (BadRequest at)) P = P
IfSettled (Err WriteFailed) P = P
IfSettled (Err (LogFailed cause)) P = Unit {0}

-- One request more.

-- it was handled: its answer waits, and only the replica changed; or all that waited was written, with it, once all was on the disk, as P says
abbrev pub Waits : {D : Type 0} → Mode → Logged D → Request → List PendingAnswer → Option (List ℕ) → Logged D → List PendingAnswer → Option (List ℕ) → Type 0 → Type 0
Waits mode node r before old node' after new P =
    (d : PendingAnswer) × Acts node.replica r d node'.replica
    × ((MayWait mode node.synced r node'.replica × (after ≡ before ++ d ∷ []) × (new ≡ old) × (node' ≡ record node { replica = node'.replica }))
    ⊎ ((¬ MayWait mode node.synced r node'.replica) × (after ≡ []) × AnswersEach node'.replica (before ++ d ∷ []) old new × IsQuiet node' × P))

-- what holds where the sink failed
abbrev pub IfUnwritten : Result Unit ServeFault → Type 0 → Type 0
IfUnwritten (Ok x) P = Unit {0}
IfUnwritten (Err Memory) P = Unit {0}
IfUnwritten (Err ReadFailed) P = Unit {0}
IfUnwritten (Err (BadRequest at)) P = Unit {0}
IfUnwritten (Err WriteFailed) P = P
IfUnwritten (Err (LogFailed cause)) P = Unit {0}

-- a fault before anything is written
abbrev pub IsEarly : ServeFault → Type 0
IsEarly Memory = Unit {0}
IsEarly ReadFailed = ⊥
IsEarly (BadRequest at) = ⊥
IsEarly WriteFailed = ⊥
IsEarly (LogFailed cause) = Unit {0}

-- a fault of what a request does, or of writing its answer, and what the sink holds then: as before, unless it failed
abbrev pub IsSilent : ServeFault → Option (List ℕ) → Option (List ℕ) → Type 0
IsSilent Memory old new = new ≡ old
IsSilent ReadFailed old new = ⊥
IsSilent (BadRequest at) old new = ⊥
IsSilent WriteFailed old new = Unit {0}
IsSilent (LogFailed cause) old new = new ≡ old

-- the sink's own fault, and the log's
abbrev pub is_write_failed : ServeFault → Bool
is_write_failed Memory = false
is_write_failed ReadFailed = false
is_write_failed (BadRequest at) = false
is_write_failed WriteFailed = true
is_write_failed (LogFailed cause) = false

abbrev pub is_log_failed : ServeFault → Bool
is_log_failed Memory = false
is_log_failed ReadFailed = false
is_log_failed (BadRequest at) = false
is_log_failed WriteFailed = false
is_log_failed (LogFailed cause) = true

-- where the log failed, the fault names why its device did first
abbrev pub Names : ServeFault → Option SystemFault → Type 0
Names Memory why = Unit {0}
Names ReadFailed why = Unit {0}
Names (BadRequest at) why = Unit {0}
Names WriteFailed why = Unit {0}
Names (LogFailed cause) why = why ≡ Some cause

-- Whether the source had failed before, and has after: it fails where that is reported, and not where all was read; where a device fails in settling, that is reported.
abbrev pub IsReadTo : Result Unit ServeFault → Bool → Bool → Type 0
IsReadTo (Ok x) had has = has ≡ had
IsReadTo (Err Memory) had has = Unit {0}
IsReadTo (Err ReadFailed) had has = has ≡ true
IsReadTo (Err (BadRequest at)) had has = has ≡ had
IsReadTo (Err WriteFailed) had has = Unit {0}
IsReadTo (Err (LogFailed cause)) had has = Unit {0}
