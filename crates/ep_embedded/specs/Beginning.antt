-- What a node begins as, and why none does.
use Rattle.std.specs.Prelude.{◌≡◌, ◌≢◌, ℕ, true, List, [], Option, Some, None}
use Rattle.ep_base.specs.Quorums.{size}
use Rattle.ep_base.specs.declared.version_kind.VersionKind.TheVariants.{V3}
use Rattle.ep_log.specs.Origins.{Origin, second}
use Rattle.ep_node.specs.Nodes.{IsQuiet, origin_of}
use Rattle.ep_node.specs.Opening.{IsOpened, IsUnopened, IsWrittenAnew}
use Rattle.ep_node.specs.declared.begin.Begin.{Begin}
use Rattle.ep_node.specs.declared.begin.Begin.TheVariants.{New, Existing}
use Rattle.ep_node.specs.declared.open_fault.OpenFault.{OpenFault}
use Rattle.ep_node.specs.declared.open_fault.OpenFault.TheVariants as unopened
use Rattle.ep_opening.specs.Bytes.{file_digest, opening_bytes}
use Rattle.ep_opening.specs.Files.{File}
use Rattle.ep_opening.specs.Reading.{IsRefused}
use Rattle.ep_opening.specs.declared.opening_fault.OpeningFault.TheVariants as unread
use Rattle.ep_embedded.specs.Hosting.{Buffer, Hosting}
use Rattle.ep_embedded.specs.declared.seat.Seat.{Seat}
use Rattle.ep_embedded.specs.declared.start_fault.StartFault.{StartFault}
use Rattle.ep_embedded.specs.declared.start_fault.StartFault.TheVariants.{Memory, Opening, OtherSize, Log}

-- what the replica of the generation with this file begins with
abbrev pub origin_from : File → Origin
origin_from file = record { version = V3 file.generation; opening = file.opening; digest = file_digest file }

-- what a replica begins with: nothing, in version 2; or what the file of these bytes says, in a cluster of its size
pub record IsFileOf (cluster : ℕ) (bytes : List ℕ) (o : Origin) : Type 0 where
  pub file : File
  pub spelled : bytes ≡ opening_bytes file
  pub cluster_is : cluster ≡ file.faults
  pub origin_is : o ≡ origin_from file

abbrev pub IsOriginOf : ℕ → Option (List ℕ) → Origin → Type 0
IsOriginOf cluster None o = o ≡ second
IsOriginOf cluster (Some bytes) o = IsFileOf cluster bytes o

-- whether a log is begun, and the bytes that there were
abbrev pub begin_of : Option (List ℕ) → Begin
begin_of None = New
begin_of (Some log) = Existing

abbrev pub log_of : Option (List ℕ) → List ℕ
log_of None = []
log_of (Some log) = log

-- The node of this replica, of this origin, is opened on these bytes, and lends the log that is to take their place. Nothing was asked or reported.
pub record IsBegunAs (o : Origin) (f r : ℕ) (log : Option (List ℕ)) (h : Hosting) : Type 0 where
  pub origin : origin_of h.node ≡ o
  pub cluster : h.node.replica.faults ≡ f
  pub me : h.node.replica.me ≡ r
  pub opened : IsOpened (begin_of log) o f r (log_of log) h.node.replica.entries h.node.cut
  pub quiet : IsQuiet h.node
  pub bytes : Buffer
  pub lent : h.lent ≡ Some bytes
  pub anew : h.is_anew ≡ true
  pub written : IsWrittenAnew (begin_of log) o f r (log_of log) bytes.items
  pub asked : h.dues ≡ []
  pub held : h.held ≡ None
  pub reported : h.answers.items ≡ []

-- the same, of what this seat's replica begins with
pub record IsBegun (seat : Seat) (opening log : Option (List ℕ)) (h : Hosting) : Type 0 where
  pub origin : IsOriginOf seat.cluster opening (origin_of h.node)
  pub cluster : h.node.replica.faults ≡ seat.cluster
  pub me : h.node.replica.me ≡ seat.me
  pub opened : IsOpened (begin_of log) (origin_of h.node) seat.cluster seat.me (log_of log) h.node.replica.entries h.node.cut
  pub quiet : IsQuiet h.node
  pub bytes : Buffer
  pub lent : h.lent ≡ Some bytes
  pub anew : h.is_anew ≡ true
  pub written : IsWrittenAnew (begin_of log) (origin_of h.node) seat.cluster seat.me (log_of log) bytes.items
  pub asked : h.dues ≡ []
  pub held : h.held ≡ None
  pub reported : h.answers.items ≡ []

-- why it can't be said what a replica begins with: out of memory; the bytes are no file; or the file is that of a cluster of another size
abbrev pub IsUnfounded : ℕ → Option (List ℕ) → StartFault → Type 0
IsUnfounded cluster opening Memory = Unit {0}
IsUnfounded cluster opening (Opening fault) = (bytes : List ℕ) × (opening ≡ Some bytes) × IsRefused fault bytes × (fault ≢ unread.Memory)
IsUnfounded cluster opening (OtherSize count) = (bytes : List ℕ) × (file : File) × (opening ≡ Some bytes) × (bytes ≡ opening_bytes file) × (file.faults ≢ cluster) × (count ≡ size file.faults)
IsUnfounded cluster opening (Log fault) = ⊥

-- why no node of this replica is: out of memory; no such member; or the log can't be begun, or gone on from
abbrev pub IsUnbegunAs : Origin → ℕ → ℕ → Option (List ℕ) → OpenFault → Type 0
IsUnbegunAs o f r log fault = IsUnopened (begin_of log) o f r (log_of log) fault

-- why there is no node: this; or the log can't be begun, or gone on from
abbrev pub IsUnbegun : Seat → Option (List ℕ) → Option (List ℕ) → StartFault → Type 0
IsUnbegun seat opening log Memory = Unit {0}
IsUnbegun seat opening log (Opening fault) = IsUnfounded seat.cluster opening (Opening fault)
IsUnbegun seat opening log (OtherSize count) = IsUnfounded seat.cluster opening (OtherSize count)
IsUnbegun seat opening log (Log fault) = (o : Origin) × IsOriginOf seat.cluster opening o × IsUnopened (begin_of log) o seat.cluster seat.me (log_of log) fault × (fault ≢ unopened.Memory)
