-- What a node begins as, by what its parts report.
use Rattle.std.proofs.Common.{◌≡◌, ℕ, List, [], Option, Some, None, refl, sym, ap, ◌∙◌, subst, arith, take, true}
use Rattle.ep_base.specs.Quorums.{size}
use Rattle.ep_device.specs.Memory.{memory_bytes}
use Rattle.ep_device.specs.declared.host_device.HostDevice.{HostDevice}
use Rattle.ep_device.specs.declared.memory_device.MemoryDevice.{MemoryDevice}
use Rattle.ep_journal.specs.declared.entry.Entry.{Entry}
use Rattle.ep_log.specs.Origins.{Origin}
use Rattle.ep_node.specs.Nodes.{IsLogOf, IsQuiet, Logged, origin_of}
use Rattle.ep_node.specs.Opening.{IsOpened, IsUnopened, IsWrittenAnew}
use Rattle.ep_node.specs.declared.begin.Begin.{Begin}
use Rattle.ep_node.specs.declared.cut.Cut.{Cut}
use Rattle.ep_node.specs.declared.open_fault.OpenFault.{OpenFault}
use Rattle.ep_node.specs.declared.open_fault.OpenFault.TheVariants as unopened
use Rattle.ep_opening.specs.Bytes.{opening_bytes}
use Rattle.ep_opening.specs.Files.{File}
use Rattle.ep_opening.specs.Reading.{IsRefused}
use Rattle.ep_opening.specs.declared.opening_fault.OpeningFault.{OpeningFault}
use Rattle.ep_opening.specs.declared.opening_fault.OpeningFault.TheVariants as unread
use Rattle.ep_embedded.specs.Beginning.{begin_of, log_of, IsBegun, IsBegunAs, IsOriginOf, IsUnbegun, IsUnbegunAs, IsUnfounded}
use Rattle.ep_embedded.specs.Faults.{of_open, of_opening}
use Rattle.ep_embedded.specs.Hosting.{Buffer, Hosting, IsHosted}
use Rattle.ep_embedded.specs.declared.seat.Seat.{Seat}
use Rattle.ep_embedded.specs.declared.start_fault.StartFault.{StartFault}
use Rattle.ep_embedded.specs.declared.start_fault.StartFault.TheVariants.{Memory, Opening, OtherSize, Log}

-- Why there is none.

pub unfounded : (cluster : ℕ) (bytes : List ℕ) (fault : OpeningFault) → IsRefused fault bytes → IsUnfounded cluster (Some bytes) (of_opening fault)
unfounded cluster bytes unread.Memory refused = tt
unfounded cluster bytes (unread.CutShort at) refused = (bytes, refl, refused, λ e. absurd cc)
unfounded cluster bytes (unread.Damaged at) refused = (bytes, refl, refused, λ e. absurd cc)
unfounded cluster bytes (unread.Wrong at field) refused = (bytes, refl, refused, λ e. absurd cc)

pub of_another_size : (cluster : ℕ) (bytes : List ℕ) (file : File) (fault : StartFault) → bytes ≡ opening_bytes file → (fault ≡ OtherSize (size file.faults)) × (¬ (file.faults ≡ cluster)) → IsUnfounded cluster (Some bytes) fault
of_another_size cluster bytes file fault spelled other = subst (λ (f : StartFault). IsUnfounded cluster (Some bytes) f) (sym other.0) (bytes, file, refl, spelled, other.1, refl)

pub unbegun_so : (seat : Seat) (opening log : Option (List ℕ)) (fault : StartFault) → IsUnfounded seat.cluster opening fault → IsUnbegun seat opening log fault
unbegun_so seat opening log Memory un = tt
unbegun_so seat opening log (Opening fault) un = un
unbegun_so seat opening log (OtherSize count) un = un
unbegun_so seat opening log (Log fault) un = absurd un

pub unopened_so : (seat : Seat) (opening log : Option (List ℕ)) (o : Origin) (fault : OpenFault) → IsOriginOf seat.cluster opening o → IsUnopened (begin_of log) o seat.cluster seat.me (log_of log) fault → IsUnbegun seat opening log (of_open fault)
unopened_so seat opening log o unopened.OutOfRange origin un = (o, origin, un, λ e. absurd cc)
unopened_so seat opening log o unopened.Memory origin un = tt
unopened_so seat opening log o (unopened.Failed cause) origin un = tt
unopened_so seat opening log o unopened.NoLog origin un = (o, origin, un, λ e. absurd cc)
unopened_so seat opening log o unopened.LogExists origin un = (o, origin, un, λ e. absurd cc)
unopened_so seat opening log o unopened.OtherLog origin un = (o, origin, un, λ e. absurd cc)
unopened_so seat opening log o (unopened.Log fault) origin un = (o, origin, un, λ e. absurd cc)
unopened_so seat opening log o (unopened.NotClocked number) origin un = (o, origin, un, λ e. absurd cc)

pub unopened_as : (seat : Seat) (opening log : Option (List ℕ)) (o : Origin) (fault : OpenFault) (reported : StartFault) → reported ≡ of_open fault → IsOriginOf seat.cluster opening o → IsUnbegunAs o seat.cluster seat.me log fault
    → IsUnbegun seat opening log reported
unopened_as seat opening log o fault reported as_reported origin un = subst (λ (f : StartFault). IsUnbegun seat opening log f) (sym as_reported) (unopened_so seat opening log o fault origin un)

-- a log or none, memory may be refused
pub no_memory : (o : Origin) (f r : ℕ) (log : Option (List ℕ)) → IsUnbegunAs o f r log unopened.Memory
no_memory o f r None = tt
no_memory o f r (Some bytes) = tt

-- a fault is reported by a test whether the log is begun
pub unopened_on : (o : Origin) (f r : ℕ) (log : Option (List ℕ)) (begin : Begin) (fault : OpenFault) → begin ≡ begin_of log → IsUnopened begin o f r (log_of log) fault → IsUnbegunAs o f r log fault
unopened_on o f r log begin fault begins un = subst (λ (b : Begin). IsUnopened b o f r (log_of log) fault) begins un

-- What there is.

-- a node of this origin was opened, and is handed on
pub record IsHanded (n : Logged MemoryDevice) (h : Hosting) : Type 0 where
  pub replica : h.node.replica ≡ n.replica
  pub digest : h.node.digest ≡ n.digest
  pub cut : h.node.cut ≡ n.cut
  pub quiet : IsQuiet h.node
  pub bytes : Buffer
  pub lent : h.lent ≡ Some bytes
  pub all : bytes.items ≡ memory_bytes n.device
  pub anew : h.is_anew ≡ true
  pub asked : h.dues ≡ []
  pub held : h.held ≡ None
  pub reported : h.answers.items ≡ []

-- it is the one of this log, which a test says whether it is begun
pub begun_on : (o : Origin) (f r : ℕ) (log : Option (List ℕ)) (begin : Begin) (n : Logged MemoryDevice) (h : Hosting) → begin ≡ begin_of log → IsHanded n h → origin_of n ≡ o → n.replica.faults ≡ f → n.replica.me ≡ r
    → IsOpened begin o f r (log_of log) n.replica.entries n.cut → (bytes : List ℕ) × (Some (memory_bytes n.device) ≡ Some bytes) × IsWrittenAnew begin o f r (log_of log) bytes → IsBegunAs o f r log h
begun_on o f r log begin n h begins handed of_it cluster me opened written =
    let all : memory_bytes n.device ≡ written.0 = (let seen = written.1 in cc) in
    record {
      origin = (λ t. record { version = (handed.replica t).version; opening = (handed.replica t).opening; digest = handed.digest t }) ∙ of_it;
      cluster = ap (λ k. k.faults) handed.replica ∙ cluster;
      me = ap (λ k. k.me) handed.replica ∙ me;
      opened = subst (λ (b : Begin). IsOpened b o f r (log_of log) h.node.replica.entries h.node.cut) begins
          (subst (λ (es : List Entry). IsOpened begin o f r (log_of log) es h.node.cut) (sym (ap (λ k. k.entries) handed.replica))
          (subst (λ (c : Option Cut). IsOpened begin o f r (log_of log) n.replica.entries c) (sym handed.cut) opened));
      quiet = handed.quiet;
      bytes = handed.bytes;
      lent = handed.lent;
      anew = handed.anew;
      written = subst (λ (b : Begin). IsWrittenAnew b o f r (log_of log) handed.bytes.items) begins
          (subst (λ (l : List ℕ). IsWrittenAnew begin o f r (log_of log) l) (sym (handed.all ∙ all)) written.2);
      asked = handed.asked;
      held = handed.held;
      reported = handed.reported;
    }

pub begun : (seat : Seat) (opening log : Option (List ℕ)) (o : Origin) (h : Hosting) → IsOriginOf seat.cluster opening o → IsBegunAs o seat.cluster seat.me log h → IsBegun seat opening log h
begun seat opening log o h origin b =
    let is = sym b.origin in
    record {
      origin = subst (λ (x : Origin). IsOriginOf seat.cluster opening x) is origin;
      cluster = b.cluster;
      me = b.me;
      opened = subst (λ (x : Origin). IsOpened (begin_of log) x seat.cluster seat.me (log_of log) h.node.replica.entries h.node.cut) is b.opened;
      quiet = b.quiet;
      bytes = b.bytes;
      lent = b.lent;
      anew = b.anew;
      written = subst (λ (x : Origin). IsWrittenAnew (begin_of log) x seat.cluster seat.me (log_of log) b.bytes.items) is b.written;
      asked = b.asked;
      held = b.held;
      reported = b.reported;
    }

-- its log, in memory, is what is lent
pub lends_whole : (n : Logged MemoryDevice) (n' : Logged HostDevice) (d : HostDevice) (bytes : Buffer) → n' ≡ record { replica = n.replica; digest = n.digest; device = d; synced = n.synced; on_disk = n.on_disk; cut = n.cut; closed = n.closed } → IsQuiet n
    → ((b : List ℕ) → Some (memory_bytes n.device) ≡ Some b → IsLogOf (origin_of n) n.replica.faults n.replica.me (take n.synced n.replica.entries) n.on_disk b) → bytes.items ≡ memory_bytes n.device → IsHosted n' true 0 (Some bytes)
lends_whole n n' d bytes same quiet log all =
    let x : Logged HostDevice = record { replica = n.replica; digest = n.digest; device = d; synced = n.synced; on_disk = n.on_disk; cut = n.cut; closed = n.closed } in
    subst (λ (y : Logged HostDevice). IsHosted y true 0 (Some bytes)) (sym same) (record {
      works = quiet.works;
      within = let all = quiet.synced in omega (arith, all);
      lends = (record { works = quiet.works; synced = quiet.synced }, subst (λ (l : List ℕ). IsLogOf (origin_of n) n.replica.faults n.replica.me (take n.synced n.replica.entries) n.on_disk l) (sym all) (log (memory_bytes n.device) refl));
    })
