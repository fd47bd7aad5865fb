-- What a map is printed as: how many keys it has, and a digest of its bytes.
use Rattle.std.specs.Prelude.{ℕ, List, ◌++◌, length, codes, decimal}
use Rattle.std.specs.FinMap.{entries}
use Rattle.ep_exec.specs.Bytes.{contents_bytes}
use Rattle.ep_rules.specs.OneMap.{Contents}
use Rattle.hex.specs.Hex.{encode_lower}
use Rattle.sha2.specs.Sha256.{sha256}

-- 64 hexadecimal digits in lower case
abbrev pub digest_text : Contents → List ℕ
digest_text m = encode_lower (sha256 (contents_bytes m))

-- how many keys there are, and the digest
abbrev pub contents_text : Contents → List ℕ
contents_text m = decimal (length (entries m)) ++ codes " " ++ digest_text m

abbrev pub contents_line : Contents → List ℕ
contents_line m = codes "contents " ++ contents_text m
