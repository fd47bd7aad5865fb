-- A node whose log names the reference that stood for its generation's opening file.
use Rattle.std.specs.Prelude.{◌≡◌, ◌≢◌, List, ℕ, Option, Some}
use Rattle.ep_node.specs.declared.open_fault.OpenFault.TheVariants as unopened
use Rattle.ep_opening.specs.Bytes.{opening_bytes}
use Rattle.ep_opening.specs.Files.{File}
use Rattle.ep_embedded.specs.Beginning.{IsUnbegunAs, IsUnfounded}
use Rattle.ep_embedded.specs.Hosting.{Hosting}
use Rattle.ep_embedded.specs.Succeeding.{IsBegunBy, origin_by}
use Rattle.ep_embedded.specs.declared.heir.Heir.{Heir}
use Rattle.ep_embedded.specs.declared.start_fault.StartFault.{StartFault}
use Rattle.ep_embedded.specs.declared.start_fault.StartFault.TheVariants.{Memory, Opening, OtherSize, Log}

-- these are the bytes of a file of the heir's cluster
pub record IsFileFor (heir : Heir) (bytes : List ℕ) (file : File) : Type 0 where
  pub spelled : bytes ≡ opening_bytes file
  pub cluster : heir.cluster ≡ file.faults

-- the node began with that file, and its log names the heir's digest
abbrev pub IsBegunBound : Heir → List ℕ → Option (List ℕ) → Hosting → Type 0
IsBegunBound heir bytes log h = (file : File) × IsFileFor heir bytes file × IsBegunBy heir file log h

-- why none began with this file: out of memory; or the log can't be begun, or gone on from
abbrev pub IsUnbegunWith : Heir → File → Option (List ℕ) → StartFault → Type 0
IsUnbegunWith heir file log Memory = Unit {0}
IsUnbegunWith heir file log (Opening fault) = ⊥
IsUnbegunWith heir file log (OtherSize count) = ⊥
IsUnbegunWith heir file log (Log fault) = IsUnbegunAs (origin_by file heir.digest) heir.cluster heir.me log fault × (fault ≢ unopened.Memory)

-- why none began: this; or the bytes are no file, or that of a cluster of another size
abbrev pub IsUnbegunBound : Heir → List ℕ → Option (List ℕ) → StartFault → Type 0
IsUnbegunBound heir bytes log Memory = Unit {0}
IsUnbegunBound heir bytes log (Opening fault) = IsUnfounded heir.cluster (Some bytes) (Opening fault)
IsUnbegunBound heir bytes log (OtherSize count) = IsUnfounded heir.cluster (Some bytes) (OtherSize count)
IsUnbegunBound heir bytes log (Log fault) = (file : File) × IsFileFor heir bytes file × IsUnbegunWith heir file log (Log fault)
