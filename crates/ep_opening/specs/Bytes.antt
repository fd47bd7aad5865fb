-- The bytes of an opening file: fields one after the other, numbers with the highest byte first, and then their digest.
use Rattle.std.specs.Prelude.{ℕ, List, ◌++◌, length, Option, Some, None}
use Rattle.std.specs.List.{flat_map}
use Rattle.ep_base.specs.Quorums.{size}
use Rattle.ep_exec.specs.Bytes.{contents_bytes}
use Rattle.ep_frame.specs.Fields.{number_bytes, dep_bytes}
use Rattle.sha2.specs.Sha256.{sha256}
use Rattle.ep_opening.specs.Files.{File}

-- `EPOP`
abbrev pub magic : ℕ
magic = 0x45504f50

-- whether a seal began the generation, and its value
abbrev pub seal_bytes : Option (List ℕ) → List ℕ
seal_bytes None = number_bytes 1 0
seal_bytes (Some value) = number_bytes 1 1 ++ (number_bytes 4 (length value) ++ value)

-- what the file is: its format, and the format's version
abbrev pub lead_bytes : List ℕ
lead_bytes = number_bytes 4 magic ++ number_bytes 1 3

-- what stands behind, before the map
abbrev pub front_bytes : File → List ℕ
front_bytes f = number_bytes 1 (size f.faults) ++ number_bytes 4 f.generation ++ number_bytes 8 f.opening.base_stamp ++ seal_bytes f.seal

-- how many there are, and each in three bytes
abbrev pub executed_bytes : List ℕ → List ℕ
executed_bytes is = number_bytes 4 (length is) ++ flat_map dep_bytes is

abbrev pub body_bytes : File → List ℕ
body_bytes f = lead_bytes ++ front_bytes f ++ contents_bytes f.opening.contents ++ executed_bytes f.executed

-- what the log of the generation names
abbrev pub file_digest : File → List ℕ
file_digest f = sha256 (body_bytes f)

abbrev pub opening_bytes : File → List ℕ
opening_bytes f = body_bytes f ++ file_digest f
