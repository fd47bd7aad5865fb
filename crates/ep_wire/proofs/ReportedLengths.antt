-- How many bytes a reply's values take.
use Rattle.std.proofs.Common.{◌≡◌, ℕ, ◌+◌, List, length, length-append, Option, Some, None, sym, arith}
use Rattle.std.specs.List.{flat_map, sum_by}
use Rattle.std.proofs.lemmas.List.Concat.{length-flat_map}
use Rattle.ep_base.specs.declared.version_kind.VersionKind.TheVariants.{V3}
use Rattle.ep_bundle.specs.Bytes.{one_reported_bytes, reported_bytes, value_bytes}
use Rattle.ep_frame.specs.Fields.{number_bytes}
use Rattle.ep_frame.proofs.Again.{length-number_bytes}

abbrev pub reported_size : Option (List ℕ) → ℕ
reported_size o = length (one_reported_bytes (V3 1) o)

pub none_size : 1 ≡ reported_size None
none_size = sym (length-number_bytes 1 0)

pub some_size : (v : List ℕ) → 5 + length v ≡ reported_size (Some v)
some_size v =
    let one : length (number_bytes 1 1) ≡ 1 = length-number_bytes 1 1 in
    let four : length (number_bytes 4 (length v)) ≡ 4 = length-number_bytes 4 (length v) in
    let value : length (value_bytes (V3 1) v) ≡ length (number_bytes 4 (length v)) + length v = length-append (number_bytes 4 (length v)) v in
    let all : reported_size (Some v) ≡ length (number_bytes 1 1) + length (value_bytes (V3 1) v) = length-append (number_bytes 1 1) (value_bytes (V3 1) v) in
    omega arith

-- how many bytes follow the length of the reply with them
pub answer_size : (os : List (Option (List ℕ))) (n : ℕ) → n ≡ sum_by (λ o. length (one_reported_bytes (V3 1) o)) os → 4 + n ≡ 2 + length (reported_bytes (V3 1) os)
answer_size os n e =
    let two : length (number_bytes 2 (length os)) ≡ 2 = length-number_bytes 2 (length os) in
    let each : length (flat_map (one_reported_bytes (V3 1)) os) ≡ sum_by (λ o. length (one_reported_bytes (V3 1) o)) os = length-flat_map (one_reported_bytes (V3 1)) os in
    let all : length (reported_bytes (V3 1) os) ≡ length (number_bytes 2 (length os)) + length (flat_map (one_reported_bytes (V3 1)) os) = length-append (number_bytes 2 (length os)) (flat_map (one_reported_bytes (V3 1)) os) in
    omega arith
