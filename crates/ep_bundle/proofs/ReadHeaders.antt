-- What stands before a bundle's journals: each part took its own bytes.
use Rattle.std.proofs.Common.{◌≡◌, ℕ, zero, suc, ◌+◌, ◌/◌, ◌^◌, ◌≤◌, ◌<◌, Bool, true, false, ◌||◌, cond, eqb, List, [], ◌∷◌, ◌++◌, length, length-append, append-nil, append_assoc, Option, Some, Ok, Err, refl, sym, ap, ◌∙◌, subst, arith}
use Rattle.std.proofs.lemmas.Bool.{eqb-true, eqb-false}
use Rattle.std.specs.FinMap.{entries, from_sorted, is_sorted}
use Rattle.std.specs.List.{flat_map}
use Rattle.ep_base.specs.Quorums.{size}
use Rattle.ep_base.specs.Values.{most_value}
use Rattle.ep_base.specs.Versions.{version_number, version_of}
use Rattle.ep_base.specs.declared.version.Version.{Version}
use Rattle.ep_base.specs.declared.version_kind.VersionKind.TheVariants.{V1, V2, V3}
use Rattle.ep_exec.specs.Table.{key_cmp}
use Rattle.ep_exec.proofs.Rising.{list_is, none_listed, one_more}
use Rattle.ep_frame.specs.Fields.{number_bytes}
use Rattle.ep_frame.specs.Spelling.{AreBytes}
use Rattle.ep_frame.proofs.BigEndian.{wide1, wide4, wide8}
use Rattle.ep_rules.specs.OneMap.{Contents, empty}
use Rattle.ep_exec.specs.Bytes.{contents_bytes, pair_bytes}
use Rattle.ep_bundle.specs.Bytes.{edition_bytes, header_bytes, magic, map_bytes}
use Rattle.ep_journal.specs.Openings.{Opening, OpensIn, no_opening}
use Rattle.ep_bundle.specs.Headers.{HoldsAt, Pair, StartsAt, cluster, contents, edition, header, header_of, key_above, late_edition, map_in, pair, pairs}
use Rattle.ep_bundle.specs.Reading.{Left, Reading, Reads, and_then, bad, run, number, field}
use Rattle.ep_bundle.specs.Writing.{OpeningFits}
use Rattle.ep_bundle.specs.declared.bundle_header.BundleHeader.{BundleHeader}
use Rattle.ep_bundle.specs.declared.bundle_field.BundleField.TheVariants as named
use Rattle.ep_bundle.specs.declared.wanted.Wanted.TheVariants.{ClusterSize, Higher}
use Rattle.ep_bundle.proofs.MapBytes.{pair_is, contents_are}
use Rattle.ep_bundle.proofs.Readings.{goes_on}
use Rattle.ep_bundle.proofs.ReadNumbers.{Gives, Comes, Ranges, done, step, last, other, whole, choice, refused, run_gives, number_gives, field_gives}

-- the edition

pub record IsEdition (n : ℕ) (e : Version × ℕ) : Type 0 where
  pub version : version_number e.0 ≡ n
  pub base_stamp : e.1 ≤ 281474976710655
  pub starts : StartsAt e.0 e.1

-- of version 1 or 2 nothing is reported
record IsEarly (n : ℕ) (v : Version) : Type 0 where
  bytes : [] ≡ edition_bytes v 0
  version : version_number v ≡ n
  starts : StartsAt v 0

early : (n : ℕ) → Ranges 1 3 n → eqb n 3 ≡ false → IsEarly n (version_of n 0)
early n p not_three = go (eqb n 1) (eqb n 3) refl not_three
  where
    go : (a b : Bool) → eqb n 1 ≡ a → b ≡ false → IsEarly n (cond a V1 (cond b (V3 0) V2))
    go true b is e = record { bytes = refl; version = sym (eqb-true n 1 is); starts = refl }
    go false true is e = absurd (cc)
    go false false is e =
        let not_one = eqb-false n 1 is in
        let other = eqb-false n 3 not_three in
        let low : 1 ≤ n = p.least in
        let high : n ≤ 3 = p.most in
        record { bytes = refl; version = omega arith; starts = refl }

pub edition_gives : (n : ℕ) (l : Left) → Ranges 1 3 n → AreBytes l.bytes → Gives (λ e. edition_bytes e.0 e.1) (IsEdition n) l (edition n l)
edition_gives n l p h =
    whole (choice (eqb n 3) (late_edition l) (Ok ((version_of n 0, 0), l))
    (λ is. step (field named.Generation 4 1 4294967295 l) (λ g l. and_then (field named.BaseStamp 8 0 281474976710655 l) (λ base_stamp l. Ok ((V3 g, base_stamp), l))) h (field_gives _ 4 wide4 1 4294967295 l h)
    (λ g l q h. step (field named.BaseStamp 8 0 281474976710655 l) (λ base_stamp l. Ok ((V3 g, base_stamp), l)) h (field_gives _ 8 wide8 0 281474976710655 l h)
    (λ base_stamp l r h. done (V3 g, base_stamp) (ap (λ x. number_bytes 4 g ++ x) (append-nil (number_bytes 8 base_stamp)), record { version = sym (eqb-true n 3 is); base_stamp = r.most; starts = tt }))))
    (λ not_three. let e = early n p not_three in done (version_of n 0, 0) (e.bytes, record { version = e.version; base_stamp = omega arith; starts = e.starts })))

-- the keys

abbrev pub Rises : List Pair → Type 0
Rises es = is_sorted key_cmp es ≡ true

-- that keys rise is asked of the keys alone
pub same_key : (es : List Pair) (k v w : List ℕ) → Rises es → Rises (es ++ (k, v) ∷ []) → Rises (es ++ (k, w) ∷ [])
same_key es k v w h e = one_more k w es h ∙ sym (one_more k v es h) ∙ e

key_gives : (es : List Pair) (n : ℕ) (l : Left) → AreBytes l.bytes → Gives (λ k. k) (λ k. (length k ≡ n) × Rises (es ++ (k, []) ∷ [])) l (key_above es n l)
key_gives es n l h =
    whole (step (run named.PairKey n l) (λ k m. cond (is_sorted key_cmp (es ++ (k, []) ∷ [])) (Ok (k, m)) (Err (bad named.PairKey n Higher l))) h (run_gives _ n l h)
    (λ k m p hm. choice (is_sorted key_cmp (es ++ (k, []) ∷ [])) (Ok (k, m)) (Err (bad named.PairKey n Higher l)) (λ e. done k (append-nil k, (p.0, e))) (λ e. refused (bad named.PairKey n Higher l))))

pair_spelled : (k n : ℕ) (key value : List ℕ) → length key ≡ k → length value ≡ n → number_bytes 1 k ++ (number_bytes 4 n ++ (key ++ value)) ≡ pair_bytes (key, value)
pair_spelled k n key value ek en = (λ t. number_bytes 1 (sym ek t) ++ (number_bytes 4 (sym en t) ++ (key ++ value))) ∙ group (number_bytes 1 (length key)) (number_bytes 4 (length value)) key value ∙ sym (pair_is (key, value))
  where
    group : (a b c d : List ℕ) → a ++ (b ++ (c ++ d)) ≡ a ++ b ++ c ++ d
    group a b c d = simp append_assoc

pub pair_gives : (es : List Pair) (l : Left) → Rises es → AreBytes l.bytes → Gives pair_bytes (λ e. Rises (es ++ e ∷ [])) l (pair es l)
pair_gives es l rise h =
    whole (step (field named.PairKeyLength 1 1 255 l) (λ k l. and_then (field named.PairValueLength 4 0 most_value l) (λ n l. and_then (key_above es k l) (λ key l. and_then (run named.PairValue n l) (λ value l. Ok ((key, value), l))))) h (field_gives _ 1 wide1 1 255 l h)
    (λ k l p h. step (field named.PairValueLength 4 0 most_value l) (λ n l. and_then (key_above es k l) (λ key l. and_then (run named.PairValue n l) (λ value l. Ok ((key, value), l)))) h (field_gives _ 4 wide4 0 most_value l h)
    (λ n l q h. step (key_above es k l) (λ key l. and_then (run named.PairValue n l) (λ value l. Ok ((key, value), l))) h (key_gives es k l h)
    (λ key l r h. step (run named.PairValue n l) (λ value l. Ok ((key, value), l)) h (run_gives _ n l h)
    (λ value l s h. done (key, value) (
      ap (λ x. number_bytes 1 k ++ (number_bytes 4 n ++ (key ++ x))) (append-nil value) ∙ pair_spelled k n key value r.0 s.0,
      same_key es key [] value rise r.1,
    ))))))

record Grown (n : ℕ) (es after : List Pair) (bs : List ℕ) : Type 0 where
  items : List Pair
  is : after ≡ es ++ items
  count : length items ≡ n
  rise : Rises after
  bytes : bs ≡ flat_map pair_bytes items

pairs_come : (n : ℕ) (es : List Pair) (l : Left) → Rises es → AreBytes l.bytes → Comes (Grown n es) l (pairs n es l)
pairs_come zero es l rise h = done es (record { items = []; is = sym (append-nil es); count = refl; rise = rise; bytes = refl })
pairs_come (suc n) es l rise h =
    step (pair es l) (λ e m. pairs n (es ++ e ∷ []) m) h (pair_gives es l rise h)
    (λ e m p k. other (pairs_come n (es ++ e ∷ []) m p k)
    (λ after bs s. record { items = e ∷ s.items; is = s.is ∙ append_assoc es (e ∷ []) s.items; count = ap suc s.count; rise = s.rise; bytes = ap (λ r. pair_bytes e ++ r) s.bytes }))

-- a map of n keys, spelled behind their count
pub contents_come : (n : ℕ) (l : Left) → AreBytes l.bytes → Comes (λ m bs. (number_bytes 4 n ++ bs ≡ contents_bytes m) × (length (entries m) ≡ n)) l (contents n l)
contents_come n l h =
    step (pairs n [] l) (λ es m. Ok (from_sorted es, m)) h (whole_pairs n l h)
    (λ es m p k. let same : entries (from_sorted {R = key_cmp} es) ≡ es = list_is es p.1 in done (from_sorted es) (
      ap (λ x. number_bytes 4 n ++ x) (append-nil (flat_map pair_bytes es)) ∙ (λ t. number_bytes 4 (sym p.0 t) ++ flat_map pair_bytes es) ∙ (λ t. number_bytes 4 (length (sym same t)) ++ flat_map pair_bytes (sym same t))
          ∙ sym (contents_are (from_sorted es)),
      ap length same ∙ p.0,
    ))
  where
    whole_pairs : (n : ℕ) (l : Left) → AreBytes l.bytes → Gives (λ es. flat_map pair_bytes es) (λ es. (length es ≡ n) × Rises es) l (pairs n [] l)
    whole_pairs n l h = whole (other (pairs_come n [] l refl h) (λ after bs s. let e : s.items ≡ after = sym s.is in (s.bytes ∙ ap (λ (xs : List Pair). flat_map pair_bytes xs) e, (ap length (sym e) ∙ s.count, s.rise))))

pub none_counted : length (entries empty) ≤ 4000000000
none_counted = let e : length (entries empty) ≡ 0 = ap length none_listed in omega arith

pub map_gives : (v : Version) (l : Left) → AreBytes l.bytes → Gives (map_bytes v) (λ m. (length (entries m) ≤ 4000000000) × HoldsAt v m) l (map_in v l)
map_gives V1 l h = whole (done empty (refl, (none_counted, refl)))
map_gives V2 l h = whole (done empty (refl, (none_counted, refl)))
map_gives (V3 g) l h =
    whole (step (field named.Keys 4 0 4000000000 l) contents h (field_gives _ 4 wide4 0 4000000000 l h)
    (λ n m p k. other (contents_come n m k) (λ c bs s. (s.0, ((let le : n ≤ 4000000000 = p.most in let e : length (entries c) ≡ n = s.1 in omega arith), tt)))))

-- the cluster

one_of_three : (n : ℕ) (three five seven : Bool) → eqb n 3 ≡ three → eqb n 5 ≡ five → eqb n 7 ≡ seven → (three || five || seven) ≡ true → n ≡ size (n / 2)
one_of_three n true five seven a b c h = let is = eqb-true n 3 a in omega arith
one_of_three n false true seven a b c h = let is = eqb-true n 5 b in omega arith
one_of_three n false false true a b c h = let is = eqb-true n 7 c in omega arith
one_of_three n false false false a b c h = absurd (cc)

pub cluster_gives : (l : Left) → AreBytes l.bytes → Gives (λ f. number_bytes 1 (size f)) (λ f. Unit {0}) l (cluster l)
cluster_gives l h =
    whole (step (number named.Replicas 1 l) (λ n m. cond (eqb n 3 || eqb n 5 || eqb n 7) (Ok (n / 2, m)) (Err (bad named.Replicas 1 ClusterSize l))) h (number_gives _ 1 wide1 l h)
    (λ n m p hm. choice (eqb n 3 || eqb n 5 || eqb n 7) (Ok (n / 2, m)) (Err (bad named.Replicas 1 ClusterSize l))
    (λ e. done (n / 2) (append-nil (number_bytes 1 n) ∙ ap (λ k. number_bytes 1 k) (one_of_three n (eqb n 3) (eqb n 5) (eqb n 7) refl refl refl e), tt))
    (λ e. refused (bad named.Replicas 1 ClusterSize l))))

-- the whole header

pub opens_in : (v : Version) (m : Contents) (base_stamp : ℕ) → StartsAt v base_stamp → HoldsAt v m → OpensIn v (record { contents = m; base_stamp = base_stamp })
opens_in V1 m base_stamp at none = λ t. record { contents = none t; base_stamp = at t }
opens_in V2 m base_stamp at none = λ t. record { contents = none t; base_stamp = at t }
opens_in (V3 g) m base_stamp at none = tt

pub record IsHeader (h : BundleHeader) : Type 0 where
  pub receipts : h.receipts < 256 ^ 4
  pub opens : OpensIn h.version h.opening
  pub fits : OpeningFits h.opening

header_spelled : (x n : ℕ) (v : Version) (o : Opening) (a b : ℕ) → x ≡ magic → version_number v ≡ n
    → number_bytes 4 x ++ (number_bytes 1 n ++ (number_bytes 1 a ++ (edition_bytes v o.base_stamp ++ (number_bytes 4 b ++ (map_bytes v o.contents ++ []))))) ≡ header_bytes v o a b
header_spelled x n v o a b ex en =
    (λ t. number_bytes 4 (ex t) ++ (number_bytes 1 (sym en t) ++ (number_bytes 1 a ++ (edition_bytes v o.base_stamp ++ (number_bytes 4 b ++ append-nil (map_bytes v o.contents) t)))))
    ∙ six (number_bytes 4 magic) (number_bytes 1 (version_number v)) (number_bytes 1 a) (edition_bytes v o.base_stamp) (number_bytes 4 b) (map_bytes v o.contents)
  where
    six : (a b c d e f : List ℕ) → a ++ (b ++ (c ++ (d ++ (e ++ f)))) ≡ a ++ b ++ c ++ d ++ e ++ f
    six a b c d e f = simp append_assoc

-- what is made of the parts
abbrev made : Version × ℕ → ℕ → ℕ → Contents → BundleHeader
made e f k m = record { version = e.0; cluster = f; opening = record { contents = m; base_stamp = e.1 }; receipts = k }

pub header_gives : (l : Left) → AreBytes l.bytes → Gives (λ h. header_bytes h.version h.opening (size h.cluster) h.receipts) IsHeader l (header l)
header_gives l h =
    whole (step (field named.Magic 4 magic magic l) (λ x l. and_then (field named.Version 1 1 3 l) (λ n l. and_then (cluster l) (λ f l. and_then (edition n l) (λ e l. and_then (number named.Receipts 4 l) (λ k l. and_then (map_in e.0 l) (λ m l. Ok (made e f k m, l))))))) h (field_gives _ 4 wide4 magic magic l h)
    (λ x l p h. step (field named.Version 1 1 3 l) (λ n l. and_then (cluster l) (λ f l. and_then (edition n l) (λ e l. and_then (number named.Receipts 4 l) (λ k l. and_then (map_in e.0 l) (λ m l. Ok (made e f k m, l)))))) h (field_gives _ 1 wide1 1 3 l h)
    (λ n l q h. step (cluster l) (λ f l. and_then (edition n l) (λ e l. and_then (number named.Receipts 4 l) (λ k l. and_then (map_in e.0 l) (λ m l. Ok (made e f k m, l))))) h (cluster_gives l h)
    (λ f l r h. step (edition n l) (λ e l. and_then (number named.Receipts 4 l) (λ k l. and_then (map_in e.0 l) (λ m l. Ok (made e f k m, l)))) h (edition_gives n l q h)
    (λ e l s h. step (number named.Receipts 4 l) (λ k l. and_then (map_in e.0 l) (λ m l. Ok (made e f k m, l))) h (number_gives _ 4 wide4 l h)
    (λ k l t h. step (map_in e.0 l) (λ m l. Ok (made e f k m, l)) h (map_gives e.0 l h)
    (λ m l u h. done (made e f k m) (
      header_spelled x n e.0 (record { contents = m; base_stamp = e.1 }) (size f) k (same magic x p) s.version,
      record { receipts = t; opens = opens_in e.0 m e.1 s.starts u.1; fits = (u.0, s.base_stamp) },
    ))))))))
  where
    same : (n x : ℕ) → Ranges n n x → x ≡ n
    same n x p = let a : n ≤ x = p.least in let b : x ≤ n = p.most in omega arith

-- what a call makes of the edition and the map

pub opens_as : (v : Version) (m : Contents) (base_stamp : ℕ) (o : Opening) → o ≡ record { contents = m; base_stamp = base_stamp } → StartsAt v base_stamp → HoldsAt v m → OpensIn v o
opens_as v m base_stamp o is at none = subst (OpensIn v) (sym is) (opens_in v m base_stamp at none)

header_ends : (v : Version) (f k : ℕ) (m : Contents) (base_stamp : ℕ) (o : Opening) (p : ℕ) (ys : List ℕ) (left : Option (List ℕ)) → left ≡ Some ys → o ≡ record { contents = m; base_stamp = base_stamp }
    → Reads (Ok (made (v, base_stamp) f k m, record { at = p; bytes = ys })) (Ok (record { version = v; cluster = f; opening = o; receipts = k })) p left
header_ends v f k m base_stamp o p ys left h is = (ys, h, ap (λ (x : Opening). Ok (record { version = v; cluster = f; opening = x; receipts = k }, record { at = p; bytes = ys })) (sym is))

-- all parts of a header were read
pub header_read : (low high : ℕ) (l : Left) (x n f : ℕ) (e : Version × ℕ) (k : ℕ) (m : Contents) (o : Opening) (p0 p1 p2 p3 p4 p5 : ℕ) (left0 left1 left2 left3 left4 left5 : Option (List ℕ)) → Reads (field named.Magic 4 magic magic l) (Ok x) p0 left0
    → ((ys : List ℕ) → left0 ≡ Some ys → Reads (field named.Version 1 low high (record { at = p0; bytes = ys })) (Ok n) p1 left1) → ((ys : List ℕ) → left1 ≡ Some ys → Reads (cluster (record { at = p1; bytes = ys })) (Ok f) p2 left2)
    → ((ys : List ℕ) → left2 ≡ Some ys → Reads (edition n (record { at = p2; bytes = ys })) (Ok e) p3 left3) → ((ys : List ℕ) → left3 ≡ Some ys → Reads (number named.Receipts 4 (record { at = p3; bytes = ys })) (Ok k) p4 left4)
    → ((ys : List ℕ) → left4 ≡ Some ys → Reads (map_in e.0 (record { at = p4; bytes = ys })) (Ok m) p5 left5) → o ≡ record { contents = m; base_stamp = e.1 }
    → Reads (header_of low high l) (Ok (record { version = e.0; cluster = f; opening = o; receipts = k })) p5 left5
header_read low high l x n f e k m o p0 p1 p2 p3 p4 p5 left0 left1 left2 left3 left4 left5 r0 r1 r2 r3 r4 r5 is =
    let h : BundleHeader = record { version = e.0; cluster = f; opening = o; receipts = k } in
    goes_on (field named.Magic 4 magic magic l) (λ x l. and_then (field named.Version 1 low high l) (λ n l. and_then (cluster l) (λ f l. and_then (edition n l) (λ e l. and_then (number named.Receipts 4 l) (λ k l. and_then (map_in e.0 l) (λ m l. Ok (made e f k m, l))))))) x p0 left0 (Ok h) p5 left5 r0
    (λ y0 e0. goes_on (field named.Version 1 low high (record { at = p0; bytes = y0 })) (λ n l. and_then (cluster l) (λ f l. and_then (edition n l) (λ e l. and_then (number named.Receipts 4 l) (λ k l. and_then (map_in e.0 l) (λ m l. Ok (made e f k m, l)))))) n p1 left1 (Ok h) p5 left5 (r1 y0 e0)
    (λ y1 e1. goes_on (cluster (record { at = p1; bytes = y1 })) (λ f l. and_then (edition n l) (λ e l. and_then (number named.Receipts 4 l) (λ k l. and_then (map_in e.0 l) (λ m l. Ok (made e f k m, l))))) f p2 left2 (Ok h) p5 left5 (r2 y1 e1)
    (λ y2 e2. goes_on (edition n (record { at = p2; bytes = y2 })) (λ e l. and_then (number named.Receipts 4 l) (λ k l. and_then (map_in e.0 l) (λ m l. Ok (made e f k m, l)))) e p3 left3 (Ok h) p5 left5 (r3 y2 e2)
    (λ y3 e3. goes_on (number named.Receipts 4 (record { at = p3; bytes = y3 })) (λ k l. and_then (map_in e.0 l) (λ m l. Ok (made e f k m, l))) k p4 left4 (Ok h) p5 left5 (r4 y3 e3)
    (λ y4 e4. goes_on (map_in e.0 (record { at = p4; bytes = y4 })) (λ m l. Ok (made e f k m, l)) m p5 left5 (Ok h) p5 left5 (r5 y4 e4)
    (λ y5 e5. header_ends e.0 f k m e.1 o p5 y5 left5 e5 is))))))
