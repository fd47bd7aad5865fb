-- The node of the next generation.
use Rattle.std.specs.Prelude.{◌≢◌, ◌<◌, ◌≤◌, ℕ, List, Option}
use Rattle.ep_base.specs.Quorums.{size}
use Rattle.ep_base.specs.declared.version_kind.VersionKind.TheVariants.{V3}
use Rattle.ep_log.specs.Origins.{Origin}
use Rattle.ep_node.specs.Closing as node
use Rattle.ep_node.specs.declared.open_fault.OpenFault.TheVariants as unopened
use Rattle.ep_node.specs.declared.close_fault.CloseFault.TheVariants as close
use Rattle.ep_opening.specs.Closing.{IsClosing, IsNext}
use Rattle.ep_opening.specs.Files.{File}
use Rattle.ep_embedded.specs.Beginning.{IsBegunAs, IsUnbegunAs}
use Rattle.ep_embedded.specs.Hosting.{Hosting, IsOnDisk}
use Rattle.ep_embedded.specs.declared.heir.Heir.{Heir}
use Rattle.ep_embedded.specs.declared.succeed_fault.SucceedFault.{SucceedFault}
use Rattle.ep_embedded.specs.declared.succeed_fault.SucceedFault.TheVariants.{Memory, OutOfRange, NotSealed, LastGeneration, Unsynced, Log}

-- what a replica of the generation with this file begins with, whose log names this digest
abbrev pub origin_by : File → List ℕ → Origin
origin_by file digest = record { version = V3 file.generation; opening = file.opening; digest = digest }

-- The node is the one that is opened with this file, on these bytes, but for the digest.
abbrev pub IsBegunBy : Heir → File → Option (List ℕ) → Hosting → Type 0
IsBegunBy heir file log h = IsBegunAs (origin_by file heir.digest) heir.cluster heir.me log h

-- why there is none: out of memory; no such member; or the log can't be begun, or gone on from
abbrev pub IsUnbegunBy : Heir → File → Option (List ℕ) → SucceedFault → Type 0
IsUnbegunBy heir file log Memory = Unit {0}
IsUnbegunBy heir file log OutOfRange = size heir.cluster ≤ heir.me
IsUnbegunBy heir file log NotSealed = ⊥
IsUnbegunBy heir file log LastGeneration = ⊥
IsUnbegunBy heir file log Unsynced = ⊥
IsUnbegunBy heir file log (Log fault) = IsUnbegunAs (origin_by file heir.digest) heir.cluster heir.me log fault × (fault ≢ unopened.Memory)

-- all is on the disk, a seal was executed, a generation is left, and the heir is one of its cluster
pub record MaySucceed (h : Hosting) (heir : Heir) : Type 0 where
  pub on_disk : IsOnDisk h
  pub generation : ℕ
  pub next : IsNext h.node.replica generation
  pub left : generation ≤ 4294967295
  pub member : heir.me < size heir.cluster

-- it began with the file that `closing` names the node before
pub record HasSucceeded (h : Hosting) (heir : Heir) (log : Option (List ℕ)) (file : File) (h' : Hosting) : Type 0 where
  pub on_disk : IsOnDisk h
  pub closing : IsClosing h.node.replica heir.cluster file
  pub begun : IsBegunBy heir file log h'

-- why none may be begun
abbrev pub IsUnsucceeded : Hosting → Heir → SucceedFault → Type 0
IsUnsucceeded h heir Memory = Unit {0}
IsUnsucceeded h heir OutOfRange = size heir.cluster ≤ heir.me
IsUnsucceeded h heir NotSealed = IsOnDisk h × node.IsUnclosed h.node close.NotSealed
IsUnsucceeded h heir LastGeneration = IsOnDisk h × node.IsUnclosed h.node close.LastGeneration
IsUnsucceeded h heir Unsynced = ¬ IsOnDisk h
IsUnsucceeded h heir (Log fault) = ⊥

-- why none was begun: none may be; or the log can't be gone on from, by a replica of the file
abbrev pub IsLost : Hosting → Heir → Option (List ℕ) → SucceedFault → Type 0
IsLost h heir log Memory = Unit {0}
IsLost h heir log OutOfRange = IsUnsucceeded h heir OutOfRange
IsLost h heir log NotSealed = IsUnsucceeded h heir NotSealed
IsLost h heir log LastGeneration = IsUnsucceeded h heir LastGeneration
IsLost h heir log Unsynced = IsUnsucceeded h heir Unsynced
IsLost h heir log (Log fault) = (file : File) × IsClosing h.node.replica heir.cluster file × IsUnbegunBy heir file log (Log fault)

-- why a node is gone that may be succeeded: out of memory; or the log can't be gone on from, by a replica of the file
abbrev pub IsGone : Hosting → Heir → Option (List ℕ) → SucceedFault → Type 0
IsGone h heir log Memory = MaySucceed h heir
IsGone h heir log OutOfRange = ⊥
IsGone h heir log NotSealed = ⊥
IsGone h heir log LastGeneration = ⊥
IsGone h heir log Unsynced = ⊥
IsGone h heir log (Log fault) = MaySucceed h heir × IsLost h heir log (Log fault)
