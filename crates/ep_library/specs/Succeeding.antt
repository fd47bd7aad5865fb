-- What the calls do by which a replica goes on in the next generation.
use Rattle.std.specs.Prelude.{◌≡◌, ◌≢◌, ◌≤◌, ◌<◌, ◌⊎◌, ℕ, List, [], ◌++◌, max, length, Option, Some, None, Result, Ok, Err}
use Rattle.std.specs.Option.{MatchOption}
use Rattle.ep_base.specs.Quorums.{size}
use Rattle.ep_embedded.specs.Hosting.{Hosting}
use Rattle.ep_embedded.specs.Succeeding.{HasSucceeded, IsGone, IsLost, IsUnsucceeded}
use Rattle.ep_embedded.specs.declared.heir.Heir.{Heir}
use Rattle.ep_embedded.specs.declared.hosted_checkpoint.HostedCheckpoint.{HostedCheckpoint}
use Rattle.ep_embedded.specs.declared.succeed_fault.SucceedFault.{SucceedFault}
use Rattle.ep_embedded.specs.declared.succeed_fault.SucceedFault.TheVariants.{Memory}
use Rattle.ep_opening.specs.Bytes.{opening_bytes}
use Rattle.ep_opening.specs.Files.{File}
use Rattle.ep_opening.specs.Pieces.{longest_field, IsAlone}
use Rattle.ep_opening.specs.References.{binding_bytes, IsReference, least_log, Reference, reference_bytes}
use Rattle.ep_library.specs.Alone.{Copies, Leaves}
use Rattle.ep_library.specs.Arguments.{IsSize, log_given}
use Rattle.ep_library.specs.Places.{succeed_place}
use Rattle.ep_library.specs.Statuses.{done, memory, out_of_range, none, no_replica, no_checkpoint, has_checkpoint, log_exists, succeed_status}
use Rattle.ep_library.specs.Syncing.{IsRun}
use Rattle.ep_library.specs.declared.closed_log.ClosedLog.{ClosedLog}
use Rattle.ep_library.specs.declared.lent.Lent.{Lent}
use Rattle.ep_library.specs.declared.place.Place.{Place}
use Rattle.ep_library.specs.declared.succession.Succession.{Succession}

-- References.

-- it is the reference to this log
pub record IsLogNamed (c : ClosedLog) (r : Reference) : Type 0 where
  pub is : IsReference r
  pub replicas : size r.faults ≡ c.replicas
  pub generation : r.generation ≡ c.generation
  pub length : r.length ≡ c.length
  pub sum : r.sum ≡ c.sum.now

-- there is one
abbrev pub HasLog : ClosedLog → Type 0
HasLog c = IsSize c.replicas × (2 ≤ c.generation) × (least_log ≤ c.length) × (length c.sum.now ≡ 32)

-- its bytes are copied out, if there is room and memory
abbrev pub NamesLog : ℕ → ClosedLog → List ℕ → ℕ → List ℕ → ℕ → Type 0
NamesLog status c old len new len' =
    ((r : Reference) × IsLogNamed c r × ((bytes : List ℕ) × (bytes ≡ reference_bytes r) × Copies status done bytes old new len'))
    ⊎ (((status ≡ memory) × (new ≡ old) × (len' ≡ len)) ⊎ ((status ≡ out_of_range) × (¬ HasLog c) × (new ≡ old) × (len' ≡ len)))

-- both can be digests
abbrev pub AreDigests : List ℕ → List ℕ → Type 0
AreDigests one other = (length one ≡ 32) × (length other ≡ 32)

-- what binds the second's file to the first's reference is copied out, if there is room and memory
abbrev pub Binds : ℕ → List ℕ × List ℕ → List ℕ → ℕ → List ℕ → ℕ → Type 0
Binds status digests out reported out' reported' =
    (AreDigests digests.0 digests.1
    × (Copies status done (binding_bytes digests.0 digests.1) out out' reported'
    ⊎ Leaves status memory out reported out' reported'))
    ⊎ ((¬ AreDigests digests.0 digests.1) × Leaves status out_of_range out reported out' reported')

-- Who goes on.

pub record IsHeir (s : Succession) (h : Heir) : Type 0 where
  pub replicas : size h.cluster ≡ s.replicas
  pub replica : h.me ≡ s.replica
  pub digest : h.digest ≡ s.digest.now

abbrev pub HasHeir : Succession → Type 0
HasHeir s = IsSize s.replicas × (s.replica ≤ 6) × (length s.digest.now ≡ 32)

-- a log is given to a new replica
abbrev pub IsSpareLog : Succession → Type 0
IsSpareLog s = (s.is_new ≢ 0) × (s.log.now ≢ [])

-- The file that is given in pieces.

abbrev pub WithCheckpoint : ℕ → Option HostedCheckpoint → Option HostedCheckpoint → (HostedCheckpoint → HostedCheckpoint → Type 0) → Type 0
WithCheckpoint status old new P = MatchOption old ((status ≡ no_checkpoint) × (new ≡ None)) (λ h. MatchOption new ⊥ (λ k. P h k))

-- nothing of this file was given yet
pub record IsWhole (f : File) (h : HostedCheckpoint) : Type 0 where
  pub file : h.checkpoint.file ≡ f
  pub left : h.checkpoint.left ≡ opening_bytes f
  pub piece : h.piece.items ≡ []

-- what was left before is this piece, of some bytes, and what is left now; the digest is a piece of its own
pub record HasGiven (most : ℕ) (h k : HostedCheckpoint) : Type 0 where
  pub file : k.checkpoint.file ≡ h.checkpoint.file
  pub left : h.checkpoint.left ≡ k.piece.items ++ k.checkpoint.left
  pub some : k.piece.items ≢ []
  pub short : length k.piece.items ≤ max most longest_field
  pub alone : IsAlone h.checkpoint.file k.piece.items k.checkpoint.left

-- the next piece is lent; or there is none, or no memory
abbrev pub Gives : ℕ → ℕ → HostedCheckpoint → HostedCheckpoint → Lent → Type 0
Gives status most h k piece =
    ((status ≡ done) × HasGiven most h k × IsRun k.piece piece)
    ⊎ (((status ≡ memory) × (k ≡ h)) ⊎ ((status ≡ none) × (h.checkpoint.left ≡ []) × (k ≡ h)))

-- it is kept, or there was no memory for it
abbrev pub Keeps : ℕ → File → Option HostedCheckpoint → Type 0
Keeps status file new = ((status ≡ done) × ((h : HostedCheckpoint) × (new ≡ Some h) × IsWhole file h)) ⊎ ((status ≡ memory) × (new ≡ None))

-- The next generation.

-- both are kept; or there was no memory, and the node or the file is gone
abbrev pub KeepsBoth : ℕ → Hosting → File → Option Hosting → Option HostedCheckpoint → Type 0
KeepsBoth status h file new kept = ((new ≡ Some h) × Keeps status file kept) ⊎ ((status ≡ memory) × (new ≡ None) × (kept ≡ None))

-- the node of the next generation, by this log, or why there is none; unless memory was refused
abbrev pub Follows : Hosting → Heir → Option (List ℕ) → Result (Hosting × File) SucceedFault → Type 0
Follows h heir log (Ok next) = HasSucceeded h heir log next.1 next.0
Follows h heir log (Err fault) = IsLost h heir log fault

-- It goes on; or it was refused, and is as it was; or it may go on, but can't from the log, and where that is wrong is reported, or there was no memory, and it is gone.
abbrev pub SucceedsAs : ℕ → Option Place → Hosting → Heir → Option (List ℕ) → Option Hosting → Option HostedCheckpoint → Type 0
SucceedsAs status reported h heir log new kept =
    ((reported ≡ None) × ((k : Hosting) × (file : File) × HasSucceeded h heir log file k × KeepsBoth status k file new kept))
    ⊎ (((fault : SucceedFault) × (status ≡ succeed_status fault) × (fault ≢ Memory) × (reported ≡ None) × IsUnsucceeded h heir fault × (new ≡ Some h) × (kept ≡ None))
    ⊎ ((fault : SucceedFault) × (status ≡ succeed_status fault) × (reported ≡ succeed_place fault) × IsGone h heir log fault × (new ≡ None) × (kept ≡ None)))

-- the same of the arguments, which may name no heir, or a new one with a log
abbrev pub Succeeds : ℕ → Option Place → Hosting → Succession → Option Hosting → Option HostedCheckpoint → Type 0
Succeeds status reported h s new kept =
    ((status ≡ out_of_range) × (reported ≡ None) × (¬ HasHeir s) × (new ≡ Some h) × (kept ≡ None))
    ⊎ (((status ≡ log_exists) × (reported ≡ None) × IsSpareLog s × (new ≡ Some h) × (kept ≡ None))
    ⊎ ((heir : Heir) × IsHeir s heir × (¬ IsSpareLog s) × SucceedsAs status reported h heir (log_given s.is_new s.log.now) new kept))

-- what a place is once this is reported, if anything is
abbrev pub reported_over : Place → Option Place → Place
reported_over other None = other
reported_over other (Some place) = place

-- there is a file already; there is no replica; or it goes on, if it may
abbrev pub GoesOn : ℕ → Option Hosting → Option HostedCheckpoint → Succession → Place → Option Hosting → Option HostedCheckpoint → Place → Type 0
GoesOn status old (Some begun) s other new kept place = (status ≡ has_checkpoint) × (new ≡ old) × (kept ≡ Some begun) × (place ≡ other)
GoesOn status old None s other new kept place =
    MatchOption old ((status ≡ no_replica) × (new ≡ None) × (kept ≡ None) × (place ≡ other)) (λ h. (reported : Option Place) × Succeeds status reported h s new kept × (place ≡ reported_over other reported))
