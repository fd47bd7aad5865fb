-- What is read of a reference was taken: its bytes, as they are written.
use Rattle.std.proofs.Common.{◌≡◌, ℕ, ◌-◌, ◌≤◌, Bool, true, false, cond, ltb, List, [], ◌++◌, length, take, drop, append-nil, append_assoc, Option, Some, Result, Ok, Err, refl, sym, ap, ◌∙◌, subst, arith}
use Rattle.std.specs.Prelude.{IsErrAnd}
use Rattle.std.proofs.lemmas.Bool.{le-ltb}
use Rattle.std.proofs.lemmas.List.{take-append-drop}
use Rattle.ep_base.specs.Attributes.{same_list}
use Rattle.ep_base.specs.Quorums.{size}
use Rattle.ep_base.proofs.Same.{Decides-same_list}
use Rattle.ep_frame.specs.Fields.{number_bytes}
use Rattle.ep_frame.specs.Spelling.{AreBytes}
use Rattle.ep_frame.proofs.BigEndian.{wide1, wide4, wide8, IsBytes-take}
use Rattle.sha2.specs.Sha256.{sha256}
use Rattle.ep_bundle.specs.Headers.{cluster}
use Rattle.ep_bundle.specs.Journals.{ended}
use Rattle.ep_bundle.specs.Reading.{Left, and_then, run, field}
use Rattle.ep_bundle.specs.declared.bundle_field.BundleField.TheVariants.{Other}
use Rattle.ep_bundle.proofs.ReadHeaders.{cluster_gives}
use Rattle.ep_bundle.proofs.ReadNumbers.{Gives, done, step, last, whole, rest_bytes, run_gives, field_gives}
use Rattle.ep_opening.specs.Reading.{IsReadAs, FileReading, ReadsAs, and_reported, lead_field, file_reading}
use Rattle.ep_opening.specs.ReferenceReading.{body_in, lead, name, name_field, parts, reference}
use Rattle.ep_opening.specs.References.{Reference, body_bytes, lead_bytes, least_log, magic, name_bytes, reference_bytes}
use Rattle.ep_opening.specs.declared.opening_fault.OpeningFault.{OpeningFault}
use Rattle.ep_opening.specs.declared.opening_fault.OpeningFault.TheVariants.{CutShort, Damaged}
use Rattle.ep_opening.specs.declared.opening_field.OpeningField.TheVariants.{Rest}
use Rattle.ep_opening.proofs.ReadFiles.{nothing_after, the_same}
use Rattle.ep_opening.proofs.FileReadings.{fails_reported, goes_on_reported, is_reported, reported_then, reporting_read}

lead_gives : (l : Left) → AreBytes l.bytes → Gives (λ (x : ℕ). lead_bytes) (λ x. Unit {0}) l (lead l)
lead_gives l h =
    whole (step (field Other 4 magic magic l) (λ x m. field Other 1 3 3 m) h (field_gives _ 4 wide4 magic magic l h)
    (λ x m p k. last (field_gives _ 1 wide1 3 3 m k) (λ y q. (spelled x y (the_same magic x p) (the_same 3 y q), tt))))
  where
    spelled : (x y : ℕ) → x ≡ magic → y ≡ 3 → number_bytes 4 x ++ number_bytes 1 y ≡ lead_bytes
    spelled x y ex ey = (λ t. number_bytes 4 (ex t) ++ number_bytes 1 (ey t))

abbrev pub made_name : ℕ → ℕ → ℕ → List ℕ → Reference
made_name f g n s = record { faults = f; generation = g; length = n; sum = s }

name_gives : (l : Left) → AreBytes l.bytes → Gives name_bytes (λ r. Unit {0}) l (name l)
name_gives l h =
    whole (step (cluster l) (λ f l. and_then (field Other 4 2 4294967295 l) (λ g l. and_then (field Other 8 least_log 18446744073709551615 l) (λ n l. and_then (run Other 32 l) (λ s l. Ok (made_name f g n s, l))))) h (cluster_gives l h)
    (λ f l p h. step (field Other 4 2 4294967295 l) (λ g l. and_then (field Other 8 least_log 18446744073709551615 l) (λ n l. and_then (run Other 32 l) (λ s l. Ok (made_name f g n s, l)))) h (field_gives _ 4 wide4 2 4294967295 l h)
    (λ g l q h. step (field Other 8 least_log 18446744073709551615 l) (λ n l. and_then (run Other 32 l) (λ s l. Ok (made_name f g n s, l))) h (field_gives _ 8 wide8 least_log 18446744073709551615 l h)
    (λ n l r h. step (run Other 32 l) (λ s l. Ok (made_name f g n s, l)) h (run_gives _ 32 l h)
    (λ s l u h. done (made_name f g n s) (group (number_bytes 1 (size f)) (number_bytes 4 g) (number_bytes 8 n) s, tt))))))
  where
    group : (a b c d : List ℕ) → a ++ (b ++ (c ++ (d ++ []))) ≡ a ++ b ++ c ++ d
    group a b c d = ap (λ (x : List ℕ). a ++ (b ++ (c ++ x))) (append-nil d) ∙ four a b c d
      where
        four : (a b c d : List ℕ) → a ++ (b ++ (c ++ d)) ≡ a ++ b ++ c ++ d
        four a b c d = simp append_assoc

-- all that stands behind the lead

abbrev pub after_name : Reference → Left → FileReading Reference
after_name r l = and_reported (file_reading (λ at. Rest) (ended l)) (λ x l. Ok (r, l))

abbrev reported_reference : Reference → Left → FileReading Reference
reported_reference r l = Ok (r, l)

same_reference : (r s : Reference) (l m : Left) → reported_reference r l ≡ reported_reference s m → r ≡ s
same_reference r s l m h = let t : (r, l) ≡ (s, m) = (cc) in ap (λ (p : Reference × Left). p.0) t

parts_are : (l l' : Left) (r : Reference) → AreBytes l.bytes → parts l ≡ Ok (r, l') → l.bytes ≡ name_bytes r
parts_are l l' r h e =
    let a = reported_then (file_reading name_field (name l)) after_name r l' e in
    let ta = (name_gives l h).took a.0 a.1 (reporting_read name_field (name l) a.0 a.1 a.2) in
    let d = reported_then (file_reading (λ at. Rest) (ended a.1)) (λ x l. Ok (a.0, l)) r l' a.3 in
    let none = nothing_after a.1.bytes a.1 d.1 d.0 (reporting_read (λ at. Rest) (ended a.1) d.0 d.1 d.2) in
    ta.1.bytes ∙ ap (λ (x : List ℕ). name_bytes a.0 ++ x) none ∙ append-nil (name_bytes a.0) ∙ ap name_bytes (same_reference a.0 r d.1 l' d.3)

-- the whole

body_is : (bs digest : List ℕ) (r : Reference) (l : Left) → AreBytes bs → body_in bs digest ≡ Ok (r, l) → bs ++ digest ≡ reference_bytes r
body_is bs digest r l h e =
    let start : Left = record { at = 0; bytes = bs } in
    let a = reported_then (file_reading lead_field (lead start)) (λ x m. cond (same_list (sha256 bs) digest) (parts m) (Err (Damaged (length bs)))) r l e in
    let t = (lead_gives start h).took a.0 a.1 (reporting_read lead_field (lead start) a.0 a.1 a.2) in
    go (same_list (sha256 bs) digest) a.1 refl t.1.bytes (rest_bytes lead_bytes start a.1 h t.1) a.3
  where
    go : (b : Bool) (m : Left) → same_list (sha256 bs) digest ≡ b → bs ≡ lead_bytes ++ m.bytes → AreBytes m.bytes → cond b (parts m) (Err (Damaged (length bs))) ≡ Ok (r, l) → bs ++ digest ≡ reference_bytes r
    go true m same is k q =
        let all : bs ≡ body_bytes r = is ∙ ap (λ (x : List ℕ). lead_bytes ++ x) (parts_are m l r k q) in
        ap (λ (d : List ℕ). bs ++ d) (sym ((Decides-same_list (sha256 bs) digest).0 same)) ∙ ap (λ (x : List ℕ). x ++ sha256 x) all
    go false m other_sum is k q = absurd (cc)

pub reference_is : (bs : List ℕ) (r : Reference) (l : Left) → AreBytes bs → reference bs ≡ Ok (r, l) → bs ≡ reference_bytes r
reference_is bs r l h e = go (ltb (length bs) 82) e
  where
    go : (b : Bool) → cond b (Err (CutShort (length bs))) (body_in (take (length bs - 32) bs) (drop (length bs - 32) bs)) ≡ Ok (r, l) → bs ≡ reference_bytes r
    go true q = absurd (cc)
    go false q = sym (take-append-drop (length bs - 32) bs) ∙ body_is (take (length bs - 32) bs) (drop (length bs - 32) bs) r l (IsBytes-take (length bs - 32) bs h) q

-- What single calls of the reader make of the bytes.

abbrev pub after_lead : List ℕ → List ℕ → ℕ → Left → FileReading Reference
after_lead bs digest x l = cond (same_list (sha256 bs) digest) (parts l) (Err (Damaged (length bs)))

abbrev start : List ℕ → Left
start bs = record { at = 0; bytes = bs }

-- the lead is at fault
pub lead_fails : (bs digest : List ℕ) (e : OpeningFault) (r : Result Reference OpeningFault) (p : ℕ) (left : Option (List ℕ)) → ReadsAs {A = ℕ} (file_reading lead_field (lead (start bs))) (Err e) p left → IsErrAnd r (λ x. x ≡ e) → IsReadAs (body_in bs digest) r
lead_fails bs digest e r p left h is = is_reported (body_in bs digest) r p left (fails_reported (file_reading lead_field (lead (start bs))) (after_lead bs digest) e r p p left left h is)

-- the digest is another
pub unsealed : (bs digest : List ℕ) (x p : ℕ) (left : Option (List ℕ)) → ReadsAs (file_reading lead_field (lead (start bs))) (Ok x) p left → same_list (sha256 bs) digest ≡ false → body_in bs digest ≡ Err (Damaged (length bs))
unsealed bs digest x p left h e =
    ap (λ (o : FileReading ℕ). and_reported o (after_lead bs digest)) h.2 ∙ ap (λ (b : Bool). cond {A = FileReading Reference} b (parts (record { at = p; bytes = h.0 })) (Err (Damaged (length bs)))) e

-- the other fields say what the whole is
pub sealed : (bs digest : List ℕ) (x p : ℕ) (left : Option (List ℕ)) (r : Result Reference OpeningFault) (q : ℕ) (left' : Option (List ℕ)) → ReadsAs (file_reading lead_field (lead (start bs))) (Ok x) p left → same_list (sha256 bs) digest ≡ true
    → ((ys : List ℕ) → left ≡ Some ys → ReadsAs (parts (record { at = p; bytes = ys })) r q left') → IsReadAs (body_in bs digest) r
sealed bs digest x p left r q left' h e next = is_reported (body_in bs digest) r q left'
    (goes_on_reported (file_reading lead_field (lead (start bs))) (after_lead bs digest) x p left r q left' h
    (λ ys k. subst (λ (b : Bool). ReadsAs {A = Reference} (cond b (parts (record { at = p; bytes = ys })) (Err (Damaged (length bs)))) r q left') (sym e) (next ys k)))

-- the length of the whole
pub long_enough : (bs front back : List ℕ) (r : Result Reference OpeningFault) → 82 ≤ length bs → front ≡ take (length bs - 32) bs → back ≡ drop (length bs - 32) bs → IsReadAs (body_in front back) r → IsReadAs (reference bs) r
long_enough bs front back r le is at h = subst (λ (o : FileReading Reference). IsReadAs o r) (sym whole) (subst (λ (xs : List ℕ). IsReadAs (body_in xs (drop (length bs - 32) bs)) r) is (subst (λ (ys : List ℕ). IsReadAs (body_in front ys) r) at h))
  where
    whole : reference bs ≡ body_in (take (length bs - 32) bs) (drop (length bs - 32) bs)
    whole = ap (λ (b : Bool). cond {A = FileReading Reference} b (Err (CutShort (length bs))) (body_in (take (length bs - 32) bs) (drop (length bs - 32) bs))) (le-ltb (length bs) 82 le)
