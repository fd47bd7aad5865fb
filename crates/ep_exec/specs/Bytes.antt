-- The bytes of a map, as bundles have them and as a digest is made of them.
use Rattle.std.specs.Prelude.{ℕ, List, ◌++◌, length}
use Rattle.std.specs.FinMap.{entries}
use Rattle.std.specs.Int.{w8, w32, to_be_bytes}
use Rattle.std.specs.List.{flat_map}
use Rattle.ep_rules.specs.OneMap.{Contents}

-- a key and what it has: the key's length in one byte, the value's in four, the highest first, and then both
abbrev pub pair_bytes : List ℕ × List ℕ → List ℕ
pair_bytes e = to_be_bytes w8 (length e.0) ++ to_be_bytes w32 (length e.1) ++ e.0 ++ e.1

-- how many keys there are, in four bytes, and each with what it has, in rising order of keys
abbrev pub contents_bytes : Contents → List ℕ
contents_bytes m = to_be_bytes w32 (length (entries m)) ++ flat_map pair_bytes (entries m)
