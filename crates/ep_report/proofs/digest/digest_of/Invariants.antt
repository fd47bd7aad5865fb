use Rattle.std.proofs.Common.{◌≡◌, ℕ, List, ◌++◌, drop}
use Rattle.std.specs.List.{flat_map}
use Rattle.sha2.specs.Hashers.{Holds256}
use Rattle.ep_exec.specs.Bytes.{contents_bytes, pair_bytes}
use Rattle.ep_report.proofs.digest.digest_of.Given as goal

-- the bytes so far, and those of the entries that are left, are those of the map
abbrev pub invariant-loop-key : goal.invariant-loop-key
invariant-loop-key l = (m : List ℕ) × Holds256 l.hasher m × (m ++ flat_map pair_bytes (drop l.key-index l.entries) ≡ contents_bytes l.contents)
