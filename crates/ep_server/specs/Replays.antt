-- What a generation opens with, as a folder has it: by a file, or by the logs that references name.
use Rattle.std.specs.Prelude.{◌≡◌, ◌⊎◌, ℕ, ◌+◌, zero, suc, List, length}
use Rattle.sha2.specs.Sha256.{sha256}
use Rattle.ep_base.specs.declared.version_kind.VersionKind.TheVariants.{V3}
use Rattle.ep_journal.specs.Entries.{Log}
use Rattle.ep_log.specs.Origins.{Origin}
use Rattle.ep_log.specs.Reading.{IsRead}
use Rattle.ep_log.specs.declared.log_version.LogVersion.{LogVersion}
use Rattle.ep_opening.specs.Bytes.{file_digest}
use Rattle.ep_opening.specs.Closing.{IsClosing}
use Rattle.ep_opening.specs.References.{IsReference, Reference, reference_digest}
use Rattle.ep_server.specs.declared.named_file.NamedFile.{NamedFile}
use Rattle.ep_server.specs.declared.named_reference.NamedReference.{NamedReference}

-- what the replica of a generation begins with that opens so
abbrev pub origin_from : NamedFile → Origin
origin_from n = record { version = V3 n.file.generation; opening = n.file.opening; digest = n.digest }

-- a reference of generation g, with its digest
pub record IsNamed (g : ℕ) (n : NamedReference) : Type 0 where
  pub is : IsReference n.reference
  pub generation : n.reference.generation ≡ g
  pub digest : n.digest ≡ reference_digest n.reference

-- these are the bytes that the reference names
pub record IsWholeLog (r : Reference) (log : List ℕ) : Type 0 where
  pub length_is : length log ≡ r.length
  pub sum : sha256 log ≡ r.sum

-- a file that its generation's log names by its own digest, or by that of a reference of the generation
abbrev pub IsKept : NamedFile → Type 0
IsKept n = (n.digest ≡ file_digest n.file) ⊎ ((r : NamedReference) × IsNamed n.file.generation r × (n.digest ≡ r.digest))

-- The log of a replica that began with `from` is the one that a reference of the next generation names, to its end, and its journal is closed by the file of `to`, whose
-- log names the reference.
pub record IsReplayed (from : NamedFile) (log : List ℕ) (to : NamedFile) : Type 0 where
  pub reference : NamedReference
  pub named : IsNamed (from.file.generation + 1) reference
  pub whole : IsWholeLog reference.reference log
  pub version : LogVersion
  pub journal : Log
  pub end : ℕ
  pub read : IsRead (origin_from from) log version journal end 0
  pub size : journal.faults ≡ from.file.faults
  pub closes : IsClosing journal reference.reference.faults to.file
  pub digest : to.digest ≡ reference.digest

-- so many logs, one after the other, lead from the one to the other
abbrev pub LeadTo : ℕ → NamedFile → NamedFile → Type 0
LeadTo zero from to = from ≡ to
LeadTo (suc k) from to = (before : NamedFile) × LeadTo k from before × (log : List ℕ) × IsReplayed before log to

-- a generation opens so: by a file that is kept, or by logs from there on
pub record HasOpened (n : NamedFile) : Type 0 where
  pub from : NamedFile
  pub kept : IsKept from
  pub count : ℕ
  pub lead : LeadTo count from n
