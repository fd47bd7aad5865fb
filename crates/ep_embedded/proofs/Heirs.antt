-- The node of the next generation.
use Rattle.std.proofs.Common.{◌≡◌, ◌≢◌, ◌<◌, ◌≤◌, ℕ, List, Option, Some, Result, Ok, Err, IfOk, IfErr, refl, sym, ap, subst, ◌∙◌, arith}
use Rattle.std.proofs.lemmas.Bool.{false≢true}
use Rattle.ep_base.specs.Quorums.{size}
use Rattle.ep_base.specs.Versions.{generation_of}
use Rattle.ep_device.specs.declared.host_device.HostDevice.{HostDevice}
use Rattle.ep_log.specs.Origins.{Origin}
use Rattle.ep_node.specs.Closing as node
use Rattle.ep_node.specs.Nodes.{IsQuiet, Logged}
use Rattle.ep_node.specs.declared.open_fault.OpenFault.{OpenFault}
use Rattle.ep_node.specs.declared.open_fault.OpenFault.TheVariants as unopened
use Rattle.ep_node.specs.declared.close_fault.CloseFault.{CloseFault}
use Rattle.ep_node.specs.declared.close_fault.CloseFault.TheVariants as close
use Rattle.ep_opening.specs.Bytes.{opening_bytes}
use Rattle.ep_opening.specs.Closing.{IsClosing}
use Rattle.ep_opening.specs.Files.{File}
use Rattle.ep_embedded.specs.Beginning.{IsBegunAs, IsUnbegunAs, IsUnfounded}
use Rattle.ep_embedded.specs.Bound.{IsBegunBound, IsUnbegunBound, IsUnbegunWith}
use Rattle.ep_embedded.specs.Faults.{of_close, of_open, of_reopen}
use Rattle.ep_embedded.specs.Hosting.{Hosting, IsOnDisk}
use Rattle.ep_embedded.specs.Succeeding.{IsBegunBy, IsGone, IsLost, IsUnbegunBy, IsUnsucceeded, MaySucceed, origin_by}
use Rattle.ep_embedded.specs.declared.heir.Heir.{Heir}
use Rattle.ep_embedded.specs.declared.start_fault.StartFault.{StartFault}
use Rattle.ep_embedded.specs.declared.start_fault.StartFault.TheVariants as start
use Rattle.ep_embedded.specs.declared.succeed_fault.SucceedFault.{SucceedFault}
use Rattle.ep_embedded.specs.declared.succeed_fault.SucceedFault.TheVariants.{Memory, OutOfRange, NotSealed, LastGeneration, Unsynced, Log}

-- Why there is none.

pub not_memory : (fault : CloseFault) → fault ≢ close.Memory → of_close fault ≢ Memory
not_memory close.Memory known e = known refl
not_memory close.NotSealed known e = absurd (cc)
not_memory close.LastGeneration known e = absurd (cc)
not_memory close.Unsynced known e = absurd (cc)
not_memory close.Closed known e = absurd (cc)

pub unsucceeded : (h : Hosting) (heir : Heir) (fault : CloseFault) → IsOnDisk h → node.IsUnclosed h.node fault → IsUnsucceeded h heir (of_close fault)
unsucceeded h heir close.Memory on un = tt
unsucceeded h heir close.NotSealed on un = (on, un)
unsucceeded h heir close.LastGeneration on un = (on, un)
unsucceeded h heir close.Unsynced on un = λ d. let all = d.quiet.synced in let few = un.1 in omega arith
unsucceeded h heir close.Closed on un = λ d. absurd (let works = d.quiet.works in let shut = un in cc)

-- the log can't be begun, or gone on from
pub unbegun_by : (heir : Heir) (file : File) (log : Option (List ℕ)) (fault : OpenFault) → IsUnbegunAs (origin_by file heir.digest) heir.cluster heir.me log fault → IsUnbegunBy heir file log (of_reopen fault)
unbegun_by heir file log unopened.OutOfRange un = un
unbegun_by heir file log unopened.Memory un = tt
unbegun_by heir file log (unopened.Failed cause) un = tt
unbegun_by heir file log unopened.NoLog un = (un, λ e. absurd cc)
unbegun_by heir file log unopened.LogExists un = (un, λ e. absurd cc)
unbegun_by heir file log unopened.OtherLog un = (un, λ e. absurd cc)
unbegun_by heir file log (unopened.Log fault) un = (un, λ e. absurd cc)
unbegun_by heir file log (unopened.NotClocked number) un = (un, λ e. absurd cc)

pub unbegun_as : (heir : Heir) (file : File) (log : Option (List ℕ)) (o : Origin) (fault : OpenFault) (reported : SucceedFault) → reported ≡ of_reopen fault → o ≡ origin_by file heir.digest → IsUnbegunAs o heir.cluster heir.me log fault → IsUnbegunBy heir file log reported
unbegun_as heir file log o fault reported as_reported is un =
    subst (λ (f : SucceedFault). IsUnbegunBy heir file log f) (sym as_reported) (unbegun_by heir file log fault (subst (λ (x : Origin). IsUnbegunAs x heir.cluster heir.me log fault) is un))

pub unbegun_with : (heir : Heir) (file : File) (log : Option (List ℕ)) (fault : OpenFault) → IsUnbegunAs (origin_by file heir.digest) heir.cluster heir.me log fault → IsUnbegunWith heir file log (of_open fault)
unbegun_with heir file log unopened.OutOfRange un = (un, λ e. absurd cc)
unbegun_with heir file log unopened.Memory un = tt
unbegun_with heir file log (unopened.Failed cause) un = tt
unbegun_with heir file log unopened.NoLog un = (un, λ e. absurd cc)
unbegun_with heir file log unopened.LogExists un = (un, λ e. absurd cc)
unbegun_with heir file log unopened.OtherLog un = (un, λ e. absurd cc)
unbegun_with heir file log (unopened.Log fault) un = (un, λ e. absurd cc)
unbegun_with heir file log (unopened.NotClocked number) un = (un, λ e. absurd cc)

pub unbegun_bound : (heir : Heir) (file : File) (log : Option (List ℕ)) (o : Origin) (fault : OpenFault) (reported : StartFault) → reported ≡ of_open fault → o ≡ origin_by file heir.digest → IsUnbegunAs o heir.cluster heir.me log fault → IsUnbegunWith heir file log reported
unbegun_bound heir file log o fault reported as_reported is un =
    subst (λ (f : StartFault). IsUnbegunWith heir file log f) (sym as_reported) (unbegun_with heir file log fault (subst (λ (x : Origin). IsUnbegunAs x heir.cluster heir.me log fault) is un))

-- What there is.

pub begun_by : (heir : Heir) (file : File) (log : Option (List ℕ)) (o : Origin) (h : Hosting) → o ≡ origin_by file heir.digest → IsBegunAs o heir.cluster heir.me log h → IsBegunBy heir file log h
begun_by heir file log o h is b = subst (λ (x : Origin). IsBegunAs x heir.cluster heir.me log h) is b

-- A log that names a reference.

pub bound_if : (heir : Heir) (bytes : List ℕ) (log : Option (List ℕ)) (file : File) (reported : Result Hosting StartFault) → (bytes ≡ opening_bytes file) × (heir.cluster ≡ file.faults) → IfOk reported (IsBegunBy heir file log) → IfOk reported (IsBegunBound heir bytes log)
bound_if heir bytes log file (Ok h) is begun = (file, record { spelled = is.0; cluster = is.1 }, begun)
bound_if heir bytes log file (Err fault) is begun = tt

pub unbound_by : (heir : Heir) (bytes : List ℕ) (log : Option (List ℕ)) (file : File) (fault : StartFault) → (bytes ≡ opening_bytes file) × (heir.cluster ≡ file.faults) → IsUnbegunWith heir file log fault → IsUnbegunBound heir bytes log fault
unbound_by heir bytes log file start.Memory is un = tt
unbound_by heir bytes log file (start.Opening fault) is un = absurd un
unbound_by heir bytes log file (start.OtherSize count) is un = absurd un
unbound_by heir bytes log file (start.Log fault) is un = (file, record { spelled = is.0; cluster = is.1 }, un)

pub unbound_if : (heir : Heir) (bytes : List ℕ) (log : Option (List ℕ)) (file : File) (reported : Result Hosting StartFault) → (bytes ≡ opening_bytes file) × (heir.cluster ≡ file.faults) → IfErr reported (IsUnbegunWith heir file log) → IfErr reported (IsUnbegunBound heir bytes log)
unbound_if heir bytes log file (Ok h) is un = tt
unbound_if heir bytes log file (Err fault) is un = unbound_by heir bytes log file fault is un

pub unbound : (heir : Heir) (bytes : List ℕ) (log : Option (List ℕ)) (fault : StartFault) → IsUnfounded heir.cluster (Some bytes) fault → IsUnbegunBound heir bytes log fault
unbound heir bytes log start.Memory un = tt
unbound heir bytes log (start.Opening fault) un = un
unbound heir bytes log (start.OtherSize count) un = un
unbound heir bytes log (start.Log fault) un = absurd un

-- What became of the node before.

-- the file is that of the node that was in its caller's hands
pub closed_so : (h : Hosting) (heir : Heir) (n : Logged HostDevice) (file : File) → n ≡ h.node → IsQuiet n × IsClosing n.replica heir.cluster file → IsClosing h.node.replica heir.cluster file
closed_so h heir n file is closed = subst (λ (x : Logged HostDevice). IsClosing x.replica heir.cluster file) is closed.1

pub lost_so : (h : Hosting) (heir : Heir) (log : Option (List ℕ)) (n : Logged HostDevice) (file : File) (fault : SucceedFault) → n ≡ h.node → IsQuiet n × IsClosing n.replica heir.cluster file → IsUnbegunBy heir file log fault → IsLost h heir log fault
lost_so h heir log n file Memory is closed un = tt
lost_so h heir log n file OutOfRange is closed un = un
lost_so h heir log n file NotSealed is closed un = absurd un
lost_so h heir log n file LastGeneration is closed un = absurd un
lost_so h heir log n file Unsynced is closed un = absurd un
lost_so h heir log n file (Log fault) is closed un = (file, closed_so h heir n file is closed, un)

-- a node that may be succeeded is gone for memory or for the log alone
pub gone : (h : Hosting) (heir : Heir) (log : Option (List ℕ)) (fault : SucceedFault) → MaySucceed h heir
    → IsLost h heir log fault → IsGone h heir log fault
gone h heir log Memory may lost = may
gone h heir log OutOfRange may lost =
    let below : heir.me < size heir.cluster = may.member in
    let above : size heir.cluster ≤ heir.me = lost in
    absurd (omega arith)
gone h heir log NotSealed may lost = absurd (false≢true (sym lost.1.1 ∙ may.next.closed))
gone h heir log LastGeneration may lost =
    let next = may.next.generation in
    let left = may.left in
    let last : generation_of h.node.replica.version ≡ 4294967295 = ap generation_of lost.1.1.1 in
    absurd (omega arith)
gone h heir log Unsynced may lost = absurd (lost may.on_disk)
gone h heir log (Log fault) may lost = (may, lost)
