-- What was written is read again: the parts of the bytes of parts.
use Rattle.std.proofs.Common.{◌≡◌, ℕ, zero, suc, ◌+◌, ◌*◌, ◌^◌, ◌/◌, ◌%◌, ◌<◌, Bool, true, false, cond, eqb, List, [], ◌∷◌, ◌++◌, length, take, drop, refl, sym, ap, ◌∙◌, append_assoc, arith}
use Rattle.std.specs.List.{flat_map, AllByRecursion}
use Rattle.std.proofs.lemmas.List.{take_at, drop_at, length-append}
use Rattle.std.proofs.lemmas.List.Concat.{flat_map-cons}
use Rattle.byteorder.specs.Endian.{big_from, big_bytes}
use Rattle.byteorder.specs.Numbers.{big_number-reads_back, length-bytes_high_first}
use Rattle.ep_base.specs.Instances.{instance_of, leader_of, number_of, IsInstance}
use Rattle.ep_frame.specs.declared.header.Header.{Header}
use Rattle.ep_frame.specs.Fields.{header_at, header_bytes, number_at, number_bytes, spelled, start_fields, origin_fields, ballot_fields, vote_fields, text_len, body_fields, late_fields, second_len_from, generation_from, body_len_from, header_len, dep_bytes, deps_in}
use Rattle.ep_frame.proofs.Packing.{instance_again}
use Rattle.ep_frame.specs.Faults.{second_place, body_place, deps_place, frame_len}
use Rattle.ep_frame.specs.Spelling.{FrameParts, parts_at, parts_bytes}
use Rattle.ep_frame.proofs.BigEndian.{from_drop, fields_from, total}

pub number_again : (i n x : ℕ) (pre rest : List ℕ) → length pre ≡ i → x < 256 ^ n → number_at i n (pre ++ (number_bytes n x ++ rest)) ≡ x
unfolding number_at number_bytes
number_again i n x pre rest len lt =
    let b = pre ++ (big_bytes n x ++ rest) in
    let place : i ≡ i + 0 = omega arith in
    ap (λ (k : ℕ). big_from k n b) place ∙ from_drop i 0 n b ∙ ap (λ (ys : List ℕ). big_from 0 n ys) (drop_at pre (big_bytes n x ++ rest) i len) ∙ big_number-reads_back n x rest lt

pub length-number_bytes : (n x : ℕ) → length (number_bytes n x) ≡ n
unfolding number_bytes
length-number_bytes n x = length-bytes_high_first n x

abbrev pub widths : List (ℕ × ℕ) → List ℕ
widths [] = []
widths (f ∷ fs) = f.0 ∷ widths fs

abbrev pub FieldsFit : List (ℕ × ℕ) → Type 0
FieldsFit [] = Unit {0}
FieldsFit (f ∷ fs) = (f.1 < 256 ^ f.0) × FieldsFit fs

pub length-spelled : (fs : List (ℕ × ℕ)) → length (spelled fs) ≡ total (widths fs)
length-spelled [] = refl
length-spelled (f ∷ fs) = omega (arith, length-append (number_bytes f.0 f.1) (spelled fs), length-number_bytes f.0 f.1, length-spelled fs)

fields_again : (fs : List (ℕ × ℕ)) (i : ℕ) (pre rest : List ℕ) → length pre ≡ i → FieldsFit fs → fields_from (widths fs) i (pre ++ (spelled fs ++ rest)) ≡ fs
fields_again [] i pre rest len fits = refl
fields_again (f ∷ fs) i pre rest len fits =
    let x = number_bytes f.0 f.1 in
    let first : pre ++ ((x ++ spelled fs) ++ rest) ≡ pre ++ (x ++ (spelled fs ++ rest)) = ap (λ (ys : List ℕ). pre ++ ys) (append_assoc x (spelled fs) rest) in
    let later : pre ++ ((x ++ spelled fs) ++ rest) ≡ (pre ++ x) ++ (spelled fs ++ rest) = first ∙ sym (append_assoc pre x (spelled fs ++ rest)) in
    let here : number_at i f.0 (pre ++ ((x ++ spelled fs) ++ rest)) ≡ f.1 = ap (number_at i f.0) first ∙ number_again i f.0 f.1 pre (spelled fs ++ rest) len fits.0 in
    let more : fields_from (widths fs) (i + f.0) (pre ++ ((x ++ spelled fs) ++ rest)) ≡ fs = ap (fields_from (widths fs) (i + f.0)) later ∙ fields_again fs (i + f.0) (pre ++ x) rest (omega (arith, length-append pre x, length-number_bytes f.0 f.1)) fits.1 in
    λ t. (f.0, here t) ∷ more t

nth : List (ℕ × ℕ) → ℕ → ℕ
nth [] k = 0
nth (f ∷ fs) zero = f.1
nth (f ∷ fs) (suc k) = nth fs k

-- the fields of a header by groups, and the two numbers that version 3 alone has
abbrev header_from : List (ℕ × ℕ) → List (ℕ × ℕ) → List (ℕ × ℕ) → List (ℕ × ℕ) → List (ℕ × ℕ) → ℕ → ℕ → Header
header_from s o a v y g n = record {
  magic = nth s 0;
  version = nth s 1;
  kind = nth s 2;
  from = nth s 3;
  to = nth o 0;
  out = nth o 1;
  entry = nth o 2;
  stamp = nth o 3;
  leader = nth a 0;
  number = nth a 1;
  counter = nth a 2;
  replica = nth a 3;
  status = nth v 0;
  other_counter = nth v 1;
  other_replica = nth v 2;
  seq = nth y 0;
  op = nth y 1;
  key_len = nth y 2;
  second_len = second_len_from (nth s 1) (nth y 1) (nth y 3);
  count = nth y 4;
  generation = generation_from (nth s 1) g;
  body_len = body_len_from (nth s 1) (nth y 1) (nth y 3) n;
}

-- the header with what is read where the test says that it is of version 3
abbrev with_late : Header → Bool → ℕ → ℕ → Header
with_late h c g n = record h {
  second_len = second_len_from h.version h.op (text_len h);
  generation = cond c g 0;
  body_len = cond c n (cond (eqb h.op 3) (text_len h) 0);
}

same_header : (b : List ℕ) (h : Header)
    → fields_from (2 ∷ 1 ∷ 1 ∷ 1 ∷ []) 0 b ≡ start_fields h
    → fields_from (1 ∷ 2 ∷ 4 ∷ 8 ∷ []) 5 b ≡ origin_fields h
    → fields_from (1 ∷ 2 ∷ 2 ∷ 1 ∷ []) 20 b ≡ ballot_fields h
    → fields_from (1 ∷ 2 ∷ 1 ∷ []) 26 b ≡ vote_fields h
    → fields_from (4 ∷ 1 ∷ 1 ∷ 2 ∷ 2 ∷ []) 30 b ≡ body_fields h
    → header_at b ≡ with_late h (eqb h.version 3) (number_at 40 4 b) (number_at 44 4 b)
unfolding nth
same_header b h s o a v y = λ t. header_from (s t) (o t) (a t) (v t) (y t) (number_at 40 4 b) (number_at 44 4 b)

late_same : (h : Header) (c : Bool) (g n g' n' : ℕ) → (c ≡ true → (g ≡ g') × (n ≡ n')) → with_late h c g n ≡ with_late h c g' n'
late_same h true g n g' n' e = let same = e refl in λ t. with_late h true (same.0 t) (same.1 t)
late_same h false g n g' n' e = refl

pub record HeaderFits (h : Header) : Type 0 where
  pub start : FieldsFit (start_fields h)
  pub origin : FieldsFit (origin_fields h)
  pub ballot : FieldsFit (ballot_fields h)
  pub vote : FieldsFit (vote_fields h)
  pub body : FieldsFit (body_fields h)
  pub generation_small : h.generation < 256 ^ 4
  pub body_small : h.body_len < 256 ^ 4
  -- what is read of the field at 36, and where version 3's fields are
  pub second_is : second_len_from h.version h.op (text_len h) ≡ h.second_len
  pub generation_is : generation_from h.version h.generation ≡ h.generation
  pub body_is : body_len_from h.version h.op (text_len h) h.body_len ≡ h.body_len

-- the fields of the first 40 bytes
abbrev front_bytes : Header → List ℕ
front_bytes h = spelled (start_fields h) ++ spelled (origin_fields h) ++ spelled (ballot_fields h) ++ spelled (vote_fields h) ++ spelled (body_fields h)

abbrev two_fields : Header → List (ℕ × ℕ)
two_fields h = (4, h.generation) ∷ (4, h.body_len) ∷ []

length-front_bytes : (h : Header) → length (front_bytes h) ≡ 40
length-front_bytes h =
    let s = spelled (start_fields h) in let o = spelled (origin_fields h) in let a = spelled (ballot_fields h) in let v = spelled (vote_fields h) in let y = spelled (body_fields h) in
    omega (
      arith,
      length-append (((s ++ o) ++ a) ++ v) y,
      length-append ((s ++ o) ++ a) v,
      length-append (s ++ o) a,
      length-append s o,
      length-spelled (start_fields h),
      length-spelled (origin_fields h),
      length-spelled (ballot_fields h),
      length-spelled (vote_fields h),
      length-spelled (body_fields h),
    )

length-late : (h : Header) (c : Bool) → 40 + length (spelled (cond c (two_fields h) [])) ≡ cond c 48 40
length-late h true = let e = length-spelled (two_fields h) in omega arith
length-late h false = refl

pub length-header_bytes : (h : Header) → length (header_bytes h) ≡ header_len h.version
length-header_bytes h =
    let front = length-front_bytes h in
    let late = length-late h (eqb h.version 3) in
    let both = length-append (front_bytes h) (spelled (late_fields h)) in
    both ∙ ap (λ (n : ℕ). n + length (spelled (late_fields h))) front ∙ late

regroup : (s o a v y t : List ℕ) → ((((s ++ o) ++ a) ++ v) ++ y) ++ t ≡ s ++ (o ++ (a ++ (v ++ (y ++ t))))
regroup s o a v y t = simp append_assoc

-- the header that is read, where this stands behind the first 40 bytes
front_again : (h : Header) (tail : List ℕ) → HeaderFits h → header_at (front_bytes h ++ tail) ≡ with_late h (eqb h.version 3) (number_at 40 4 (front_bytes h ++ tail)) (number_at 44 4 (front_bytes h ++ tail))
front_again h tail fits =
    let s = spelled (start_fields h) in let o = spelled (origin_fields h) in let a = spelled (ballot_fields h) in let v = spelled (vote_fields h) in let y = spelled (body_fields h) in
    let b = front_bytes h ++ tail in
    let ls = length-spelled (start_fields h) in let lo = length-spelled (origin_fields h) in let la = length-spelled (ballot_fields h) in let lv = length-spelled (vote_fields h) in
    let is : b ≡ s ++ (o ++ (a ++ (v ++ (y ++ tail)))) = regroup s o a v y tail in
    let is1 : b ≡ (s ++ o) ++ (a ++ (v ++ (y ++ tail))) = is ∙ sym (append_assoc s o (a ++ (v ++ (y ++ tail)))) in
    let is2 : b ≡ ((s ++ o) ++ a) ++ (v ++ (y ++ tail)) = is1 ∙ sym (append_assoc (s ++ o) a (v ++ (y ++ tail))) in
    let is3 : b ≡ (((s ++ o) ++ a) ++ v) ++ (y ++ tail) = is2 ∙ sym (append_assoc ((s ++ o) ++ a) v (y ++ tail)) in
    same_header b h
    (ap (fields_from (2 ∷ 1 ∷ 1 ∷ 1 ∷ []) 0) is ∙ fields_again (start_fields h) 0 [] (o ++ (a ++ (v ++ (y ++ tail)))) refl fits.start)
    (ap (fields_from (1 ∷ 2 ∷ 4 ∷ 8 ∷ []) 5) is ∙ fields_again (origin_fields h) 5 s (a ++ (v ++ (y ++ tail))) ls fits.origin)
    (ap (fields_from (1 ∷ 2 ∷ 2 ∷ 1 ∷ []) 20) is1 ∙ fields_again (ballot_fields h) 20 (s ++ o) (v ++ (y ++ tail)) (omega (arith, ls, lo, length-append s o)) fits.ballot)
    (ap (fields_from (1 ∷ 2 ∷ 1 ∷ []) 26) is2 ∙ fields_again (vote_fields h) 26 ((s ++ o) ++ a) (y ++ tail) (omega (arith, ls, lo, la, length-append s o, length-append (s ++ o) a)) fits.vote)
    (ap (fields_from (4 ∷ 1 ∷ 1 ∷ 2 ∷ 2 ∷ []) 30) is3 ∙ fields_again (body_fields h) 30 (((s ++ o) ++ a) ++ v) tail (omega (arith, ls, lo, la, lv, length-append s o, length-append (s ++ o) a, length-append ((s ++ o) ++ a) v)) fits.body)

-- the two numbers of version 3
late_again : (h : Header) (tail : List ℕ) → HeaderFits h → eqb h.version 3 ≡ true
    → (number_at 40 4 (front_bytes h ++ (spelled (late_fields h) ++ tail)) ≡ h.generation) × (number_at 44 4 (front_bytes h ++ (spelled (late_fields h) ++ tail)) ≡ h.body_len)
unfolding nth
late_again h tail fits three =
    let same : fields_from (4 ∷ 4 ∷ []) 40 (front_bytes h ++ (spelled (late_fields h) ++ tail)) ≡ two_fields h =
    ap (λ (c : Bool). fields_from (4 ∷ 4 ∷ []) 40 (front_bytes h ++ (spelled (cond c (two_fields h) []) ++ tail))) three
    ∙ fields_again (two_fields h) 40 (front_bytes h) tail (length-front_bytes h) (fits.generation_small, (fits.body_small, tt)) in
    (ap (λ (fs : List (ℕ × ℕ)). nth fs 0) same, ap (λ (fs : List (ℕ × ℕ)). nth fs 1) same)

pub header_again : (h : Header) (tail : List ℕ) → HeaderFits h → header_at (header_bytes h ++ tail) ≡ h
header_again h tail fits =
    let l = spelled (late_fields h) in
    let b = front_bytes h ++ (l ++ tail) in
    let is : header_bytes h ++ tail ≡ b = append_assoc (front_bytes h) l tail in
    ap header_at is
    ∙ front_again h (l ++ tail) fits
    ∙ late_same h (eqb h.version 3) (number_at 40 4 b) (number_at 44 4 b) h.generation h.body_len (late_again h tail fits)
    ∙ (λ t. record h { second_len = fits.second_is t; generation = fits.generation_is t; body_len = fits.body_is t })

three_again : (i : ℕ) (rest : List ℕ) → IsInstance i → deps_in (dep_bytes i ++ rest) ≡ i ∷ deps_in rest
unfolding number_bytes
three_again i rest h =
    let r : leader_of i % 256 ≡ leader_of i = omega (arith, h.0) in
    let n : number_of i / 256 % 256 * 256 + number_of i % 256 ≡ number_of i = omega (arith, h.2) in
    (λ t. instance_of (r t) (n t) ∷ deps_in rest) ∙ ap (λ (j : ℕ). j ∷ deps_in rest) (instance_again i)

pub deps_again : (ds : List ℕ) → AllByRecursion IsInstance ds → deps_in (flat_map dep_bytes ds) ≡ ds
deps_again [] h = refl
deps_again (i ∷ is) h = ap deps_in (flat_map-cons dep_bytes i is) ∙ three_again i (flat_map dep_bytes is) h.0 ∙ ap (λ (xs : List ℕ). i ∷ xs) (deps_again is h.1)

pub length-deps : (ds : List ℕ) → length (flat_map dep_bytes ds) ≡ 3 * length ds
length-deps [] = refl
length-deps (i ∷ is) =
    let e = ap length (flat_map-cons dep_bytes i is) in
    omega (arith, e, length-append (dep_bytes i) (flat_map dep_bytes is), length-append (number_bytes 1 (leader_of i)) (number_bytes 2 (number_of i)), length-number_bytes 1 (leader_of i), length-number_bytes 2 (number_of i), length-deps is)

pub record PartsFit (p : FrameParts) : Type 0 where
  pub header : HeaderFits p.header
  pub key : length p.key ≡ p.header.key_len
  pub second : length p.second ≡ p.header.second_len
  pub body : length p.body ≡ p.header.body_len
  pub deps : AllByRecursion IsInstance p.deps

abbrev parts_with : Header → List ℕ → FrameParts
parts_with h b = record {
  header = h;
  key = take h.key_len (drop (header_len h.version) b);
  second = take h.second_len (drop (second_place h) b);
  body = take h.body_len (drop (body_place h) b);
  deps = deps_in (drop (deps_place h) b);
}

-- a run after another one, from its place
part_again : (x y z b : List ℕ) (i n : ℕ) → b ≡ x ++ (y ++ z) → length x ≡ i → length y ≡ n → take n (drop i b) ≡ y
part_again x y z b i n is lx ly = ap (λ (ys : List ℕ). take n (drop i ys)) is ∙ ap (take n) (drop_at x (y ++ z) i lx) ∙ take_at y z n ly

pub parts_again : (p : FrameParts) → PartsFit p → parts_at (parts_bytes p) ≡ p
parts_again p fits =
    let h = p.header in let x = header_bytes h in let d = flat_map dep_bytes p.deps in let b = parts_bytes p in
    let lx = length-header_bytes h in
    let lk : length (x ++ p.key) ≡ second_place h = omega (arith, lx, fits.key, length-append x p.key) in
    let ls : length ((x ++ p.key) ++ p.second) ≡ body_place h = omega (arith, lk, fits.second, length-append (x ++ p.key) p.second) in
    let lb : length (((x ++ p.key) ++ p.second) ++ p.body) ≡ deps_place h = omega (arith, ls, fits.body, length-append ((x ++ p.key) ++ p.second) p.body) in
    let is0 : b ≡ x ++ (p.key ++ (p.second ++ (p.body ++ d))) = simp append_assoc in
    let is1 : b ≡ (x ++ p.key) ++ (p.second ++ (p.body ++ d)) = simp append_assoc in
    let is2 : b ≡ ((x ++ p.key) ++ p.second) ++ (p.body ++ d) = simp append_assoc in
    let head : header_at b ≡ h = ap header_at is0 ∙ header_again h (p.key ++ (p.second ++ (p.body ++ d))) fits.header in
    let key = part_again x p.key (p.second ++ (p.body ++ d)) b (header_len h.version) h.key_len is0 lx fits.key in
    let second = part_again (x ++ p.key) p.second (p.body ++ d) b (second_place h) h.second_len is1 lk fits.second in
    let body = part_again ((x ++ p.key) ++ p.second) p.body d b (body_place h) h.body_len is2 ls fits.body in
    let deps : deps_in (drop (deps_place h) b) ≡ p.deps = ap deps_in (drop_at (((x ++ p.key) ++ p.second) ++ p.body) d (deps_place h) lb) ∙ deps_again p.deps fits.deps in
    ap (λ (g : Header). parts_with g b) head ∙ (λ t. record { header = h; key = key t; second = second t; body = body t; deps = deps t })

pub length-parts_bytes : (p : FrameParts) → PartsFit p → length p.deps ≡ p.header.count → length (parts_bytes p) ≡ frame_len p.header
length-parts_bytes p fits c =
    let h = p.header in let x = header_bytes h in let d = flat_map dep_bytes p.deps in
    omega (arith, c, fits.key, fits.second, fits.body, length-header_bytes h, length-append (((x ++ p.key) ++ p.second) ++ p.body) d, length-append ((x ++ p.key) ++ p.second) p.body, length-append (x ++ p.key) p.second, length-append x p.key, length-deps p.deps)
