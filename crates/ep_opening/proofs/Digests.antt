-- The last bytes of a file are its digest.
use Rattle.std.proofs.Common.{◌≡◌, ℕ, ◌+◌, ◌-◌, ◌<◌, List, ◌++◌, length, length-append, take, drop, drop_at, Option, Some, None, refl, ap, ◌∙◌, arith}
use Rattle.std.proofs.lemmas.List.{take_rest}
use Rattle.sha2.specs.Sha256.{sha256}
use Rattle.sha2.proofs.Facts256.{length-sha256}
use Rattle.ep_opening.specs.Bytes.{body_bytes, file_digest, opening_bytes}
use Rattle.ep_opening.specs.Files.{File}
use Rattle.ep_opening.specs.References.{Reference, reference_bytes, reference_digest}
use Rattle.ep_opening.specs.References.{body_bytes as name_body}

behind : (xs sum : List ℕ) → length sum ≡ 32 → drop (length (xs ++ sum) - 32) (xs ++ sum) ≡ sum
behind xs sum len =
    let both : length (xs ++ sum) ≡ length xs + length sum = length-append xs sum in
    let n : length (xs ++ sum) - 32 ≡ length xs = omega arith in
    ap (λ (k : ℕ). drop k (xs ++ sum)) n ∙ drop_at xs sum (length xs) refl

ends_with : (bs body : List ℕ) → bs ≡ body ++ sha256 body → take (length bs - (length bs - 32)) (drop (length bs - 32) bs) ≡ sha256 body
ends_with bs body is = take_rest bs (length bs - 32) ∙ ap (λ (xs : List ℕ). drop (length xs - 32) xs) is ∙ behind body (sha256 body) (length-sha256 body)

abbrev some : List ℕ → Option (List ℕ)
some digest = Some digest

too_short : (bs body : List ℕ) → length bs < 32 → bs ≡ body ++ sha256 body → None ≡ some (sha256 body)
too_short bs body lt is =
    let long : length bs ≡ length body + length (sha256 body) = ap length is ∙ length-append body (sha256 body) in
    let sum = length-sha256 body in
    absurd (omega arith)

-- of a file

pub last_bytes : (bs : List ℕ) (f : File) → bs ≡ opening_bytes f → take (length bs - (length bs - 32)) (drop (length bs - 32) bs) ≡ file_digest f
last_bytes bs f is = ends_with bs (body_bytes f) is

abbrev some_digest : File → Option (List ℕ)
some_digest f = Some (file_digest f)

pub too_few : (bs : List ℕ) (f : File) → length bs < 32 → bs ≡ opening_bytes f → None ≡ some_digest f
too_few bs f lt is = too_short bs (body_bytes f) lt is

-- of a reference

pub last_of_name : (bs : List ℕ) (r : Reference) → bs ≡ reference_bytes r → take (length bs - (length bs - 32)) (drop (length bs - 32) bs) ≡ reference_digest r
last_of_name bs r is = ends_with bs (name_body r) is

abbrev some_named : Reference → Option (List ℕ)
some_named r = Some (reference_digest r)

pub too_few_of_name : (bs : List ℕ) (r : Reference) → length bs < 32 → bs ≡ reference_bytes r → None ≡ some_named r
too_few_of_name bs r lt is = too_short bs (name_body r) lt is
