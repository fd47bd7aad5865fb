-- What is written of a reference is read back, so bytes that are refused are none of one.
use Rattle.std.proofs.Common.{◌≡◌, ℕ, ◌+◌, ◌-◌, Bool, cond, List, [], ◌++◌, length, length-append, take, take_all, drop, drop_at, append-nil, append_assoc, Result, Ok, Err, refl, sym, ap, ◌∙◌, arith}
use Rattle.std.specs.Prelude.{IfErr, IfOk}
use Rattle.std.proofs.lemmas.Bool.{le-ltb}
use lib.Seq.{take-append-le}
use Rattle.ep_base.specs.Quorums.{size}
use Rattle.ep_base.proofs.Same.{Decides-same_list}
use Rattle.ep_frame.specs.Fields.{number_bytes}
use Rattle.ep_frame.specs.Spelling.{AreBytes}
use Rattle.ep_frame.proofs.Again.{length-number_bytes}
use Rattle.sha2.specs.Sha256.{sha256}
use Rattle.sha2.proofs.Facts256.{length-sha256}
use Rattle.ep_bundle.specs.Headers.{cluster}
use Rattle.ep_bundle.specs.Reading.{Left, Reading, and_then, run, field}
use Rattle.ep_bundle.specs.declared.bundle_field.BundleField.TheVariants.{Other}
use Rattle.ep_bundle.proofs.WrittenHeaders.{clustered}
use Rattle.ep_bundle.proofs.WrittenStages.{Gives, respelled, then_gives, made_of, ran, fielded}
use Rattle.ep_opening.specs.Reading.{IsReadAs, FileReading, and_reported, lead_field, file_reading}
use Rattle.ep_opening.specs.ReferenceReading.{IsNone, IsRefused, ReferencesAreReadBack, body_in, lead, name, name_field, parts, reference}
use Rattle.ep_opening.specs.References.{IsReference, Reference, body_bytes, lead_bytes, least_log, magic, name_bytes, reference_bytes}
use Rattle.ep_opening.specs.declared.opening_fault.OpeningFault.{OpeningFault}
use Rattle.ep_opening.specs.declared.opening_fault.OpeningFault.TheVariants.{Memory, CutShort, Damaged, Wrong}
use Rattle.ep_opening.proofs.ReadReferences.{after_lead, after_name, made_name, reference_is}

lead_given : Gives lead lead_bytes 3
lead_given = then_gives (field Other 4 magic magic) (λ x l. field Other 1 3 3 l) (number_bytes 4 magic) (number_bytes 1 3) magic 3 (fielded _ 4 magic magic magic (omega arith) (omega arith) (omega arith)) (fielded _ 1 3 3 3 (omega arith) (omega arith) (omega arith))

name_given : (r : Reference) → IsReference r → Gives name (name_bytes r) r
name_given r h =
    let a = number_bytes 1 (size r.faults) in
    let b = number_bytes 4 r.generation in
    let c = number_bytes 8 r.length in
    let d = r.sum in
    respelled name (a ++ (b ++ (c ++ d))) (name_bytes r) r (group a b c d)
    (then_gives cluster (λ f l. and_then (field Other 4 2 4294967295 l) (λ g l. and_then (field Other 8 least_log 18446744073709551615 l) (λ n l. and_then (run Other 32 l) (λ s l. Ok (made_name f g n s, l))))) a (b ++ (c ++ d)) r.faults r (clustered r.faults h.least h.most)
    (then_gives (field Other 4 2 4294967295) (λ g l. and_then (field Other 8 least_log 18446744073709551615 l) (λ n l. and_then (run Other 32 l) (λ s l. Ok (made_name r.faults g n s, l)))) b (c ++ d) r.generation r (fielded _ 4 2 4294967295 r.generation (omega arith) h.later h.generation)
    (then_gives (field Other 8 least_log 18446744073709551615) (λ n l. and_then (run Other 32 l) (λ s l. Ok (made_name r.faults r.generation n s, l))) c d r.length r (fielded _ 8 least_log 18446744073709551615 r.length (omega arith) h.long h.fits)
    (made_of (run Other 32) (λ s l. Ok (made_name r.faults r.generation r.length s, l)) d r.sum r (ran _ 32 r.sum h.sum) (λ l. refl)))))
  where
    group : (a b c d : List ℕ) → a ++ (b ++ (c ++ d)) ≡ a ++ b ++ c ++ d
    group a b c d = simp append_assoc

parts_given : (r : Reference) → IsReference r → (at : ℕ) → (next : ℕ) × (parts (record { at = at; bytes = name_bytes r }) ≡ Ok (r, record { at = next; bytes = [] }))
parts_given r h at =
    let p = name_given r h at [] in (
      p.0,
      ap (λ (zs : List ℕ). parts (record { at = at; bytes = zs })) (sym (append-nil (name_bytes r))) ∙ ap (λ (o : Reading Reference). and_reported (file_reading name_field o) after_name) p.1,
    )

body_given : (r : Reference) → IsReference r → (next : ℕ) × (body_in (body_bytes r) (sha256 (body_bytes r)) ≡ Ok (r, record { at = next; bytes = [] }))
body_given r h =
    let bs = body_bytes r in
    let p = lead_given 0 (name_bytes r) in
    let q = parts_given r h p.0 in (
      q.0,
      ap (λ (o : Reading ℕ). and_reported (file_reading lead_field o) (after_lead bs (sha256 bs))) p.1
          ∙ ap (λ (b : Bool). cond b (parts (record { at = p.0; bytes = name_bytes r })) (Err (Damaged (length bs)))) ((Decides-same_list (sha256 bs) (sha256 bs)).1 refl)
          ∙ q.1,
    )

long_body : (r : Reference) → IsReference r → length (body_bytes r) ≡ 50
long_body r h =
    let all = length-append lead_bytes (name_bytes r) in
    let lead_is = length-append (number_bytes 4 magic) (number_bytes 1 3) in
    let four = length-number_bytes 4 magic in
    let one = length-number_bytes 1 3 in
    let x = length-append (number_bytes 1 (size r.faults) ++ number_bytes 4 r.generation ++ number_bytes 8 r.length) r.sum in
    let y = length-append (number_bytes 1 (size r.faults) ++ number_bytes 4 r.generation) (number_bytes 8 r.length) in
    let z = length-append (number_bytes 1 (size r.faults)) (number_bytes 4 r.generation) in
    let a = length-number_bytes 1 (size r.faults) in
    let b = length-number_bytes 4 r.generation in
    let c = length-number_bytes 8 r.length in
    let d = h.sum in
    omega arith

read_back : (r : Reference) (bs sum : List ℕ) → length bs ≡ 50 → length sum ≡ 32 → (next : ℕ) × (body_in bs sum ≡ Ok (r, record { at = next; bytes = [] })) → (next : ℕ) × (reference (bs ++ sum) ≡ Ok (r, record { at = next; bytes = [] }))
read_back r bs sum long len p =
    let both : length (bs ++ sum) ≡ length bs + length sum = length-append bs sum in
    let n : length (bs ++ sum) - 32 ≡ length bs = omega arith in
    let test = le-ltb (length (bs ++ sum)) 82 (omega arith) in
    let front_is : take (length (bs ++ sum) - 32) (bs ++ sum) ≡ bs = ap (λ (k : ℕ). take k (bs ++ sum)) n ∙ take-append-le (length bs) bs sum (omega arith) ∙ take_all (length bs) bs (omega arith) in
    let rest_is : drop (length (bs ++ sum) - 32) (bs ++ sum) ≡ sum = ap (λ (k : ℕ). drop k (bs ++ sum)) n ∙ drop_at bs sum (length bs) refl in (
      p.0,
      ap (λ (b : Bool). cond b (Err (CutShort (length (bs ++ sum)))) (body_in (take (length (bs ++ sum) - 32) (bs ++ sum)) (drop (length (bs ++ sum) - 32) (bs ++ sum)))) test
          ∙ (λ t. body_in (front_is t) (rest_is t))
          ∙ p.1,
    )

pub references_back : ReferencesAreReadBack
references_back r h = read_back r (body_bytes r) (sha256 (body_bytes r)) (long_body r h) (length-sha256 (body_bytes r)) (body_given r h)

-- What the reader's answers say of the bytes.

apart : (o : FileReading Reference) (e : OpeningFault) (r : Reference) (l : Left) → o ≡ Err e → o ≡ Ok (r, l) → ⊥
apart (Ok p) e r l h k = absurd (cc)
apart (Err x) e r l h k = absurd (cc)

none_has : (bs : List ℕ) (e : OpeningFault) → reference bs ≡ Err e → IsNone bs
none_has bs e h r k is = let b = references_back r k in apart (reference bs) e r (record { at = b.0; bytes = [] }) h (ap (λ (x : List ℕ). reference x) is ∙ b.1)

pub reported_bytes : (bs : List ℕ) (r : Result Reference OpeningFault) → AreBytes bs → IsReadAs (reference bs) r → IfOk r (λ f. bs ≡ reference_bytes f)
reported_bytes bs (Ok f) h is = reference_is bs f is.0 h is.1
reported_bytes bs (Err e) h is = tt

pub reported_refusal : (bs : List ℕ) (r : Result Reference OpeningFault) → IsReadAs (reference bs) r → IfErr r (λ e. IsRefused e bs)
reported_refusal bs (Ok f) is = tt
reported_refusal bs (Err Memory) is = tt
reported_refusal bs (Err (CutShort at)) is = (is, none_has bs (CutShort at) is)
reported_refusal bs (Err (Damaged at)) is = (is, none_has bs (Damaged at) is)
reported_refusal bs (Err (Wrong at name)) is = (is, none_has bs (Wrong at name) is)
