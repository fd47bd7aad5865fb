-- What is written is read back: what stands before a bundle's journals.
use Rattle.std.proofs.Common.{◌≡◌, inl, inr, ℕ, suc, ◌+◌, ◌/◌, ◌^◌, ◌<◌, ◌≤◌, Bool, true, ◌&&◌, ◌||◌, cond, eqb, List, [], ◌∷◌, ◌++◌, length, Ok, Err, refl, sym, ap, subst, ◌∙◌, append_assoc, arith}
use Rattle.std.specs.FinMap.{entries, entries_sorted, from_sorted, is_sorted, same_entries_map}
use Rattle.std.specs.FinMap.Entries.{below_all}
use Rattle.std.specs.List.{flat_map}
use Rattle.std.proofs.lemmas.Bool.{and_parts, cases_eq}
use Rattle.std.proofs.lemmas.List.Concat.{flat_map-cons}
use Rattle.ep_base.specs.Generations.{HasItsGeneration}
use Rattle.ep_base.specs.Quorums.{size}
use Rattle.ep_base.specs.Values.{most_value}
use Rattle.ep_base.specs.Versions.{version_number}
use Rattle.ep_base.specs.declared.version.Version.{Version}
use Rattle.ep_base.specs.declared.version_kind.VersionKind.TheVariants.{V1, V2, V3}
use Rattle.ep_base.proofs.Tests.{true_of}
use Rattle.ep_base.proofs.Versions.{version_low}
use Rattle.ep_exec.proofs.Rising.{list_is}
use Rattle.ep_exec.specs.Bytes.{contents_bytes, pair_bytes}
use Rattle.ep_exec.specs.Table.{key_cmp}
use Rattle.ep_frame.specs.Fields.{number_bytes}
use Rattle.ep_journal.specs.Openings.{Opening, OpensIn}
use Rattle.ep_rules.specs.OneMap.{Contents}
use Rattle.ep_bundle.specs.Bytes.{edition_bytes, header_bytes, magic, map_bytes}
use Rattle.ep_bundle.specs.Headers.{Pair, cluster, contents, edition, header, key_above, map_in, pair, pairs}
use Rattle.ep_bundle.specs.Reading.{Left, Reading, and_then, bad, field, number, run}
use Rattle.ep_bundle.specs.Writing.{All, OpeningFits}
use Rattle.ep_bundle.specs.WriteRanges.{PairTyped}
use Rattle.ep_bundle.specs.declared.bundle_header.BundleHeader.{BundleHeader}
use Rattle.ep_bundle.specs.declared.bundle_fault.BundleFault.{BundleFault}
use Rattle.ep_bundle.specs.declared.bundle_field.BundleField.TheVariants as named
use Rattle.ep_bundle.specs.declared.wanted.Wanted.TheVariants.{ClusterSize, Higher}
use Rattle.ep_bundle.proofs.MapBytes.{pair_is, contents_are}
use Rattle.ep_bundle.proofs.ReadHeaders.{Rises, same_key}
use Rattle.ep_bundle.proofs.WrittenStages.{Gives, then_gives, made_of, numbered, fielded, ran, respelled}
use Rattle.ep_bundle.proofs.WrittenParts.{group4}

-- keys

-- the first of rising keys rise

below_front : (x : List ℕ) (xs ys : List Pair) → below_all key_cmp x (xs ++ ys) ≡ true → below_all key_cmp x xs ≡ true
below_front x [] ys h = refl
below_front x (e ∷ xs) ys h = let p = and_parts _ _ h in (λ t. (p.0 t) && (below_front x xs ys p.1 t))

rises_front : (xs ys : List Pair) → Rises (xs ++ ys) → Rises xs
rises_front [] ys h = refl
rises_front (e ∷ xs) ys h = let p = and_parts _ _ h in (λ t. (below_front e.0 xs ys p.0 t) && (rises_front xs ys p.1 t))

key_given : (es : List Pair) (n : ℕ) (key : List ℕ) → length key ≡ n → Rises (es ++ (key, []) ∷ []) → Gives (key_above es n) key key
key_given es n key len rise at rest =
    let p = ran named.PairKey n key len at rest in
    let fault : BundleFault = bad named.PairKey n Higher (record { at = at; bytes = [] }) in (
      p.0,
      ap (λ (o : Reading (List ℕ)). and_then o (λ k l. cond (is_sorted key_cmp (es ++ (k, []) ∷ [])) (Ok (k, l)) (Err fault))) p.1
          ∙ ap (λ (b : Bool). cond b (Ok (key, record { at = p.0; bytes = rest })) (Err fault)) rise,
    )

pair_given : (es : List Pair) (e : Pair) → PairTyped e → Rises (es ++ e ∷ []) → Gives (pair es) (pair_bytes e) e
pair_given es e t rise =
    let k = length e.0 in
    let n = length e.1 in
    let a = number_bytes 1 k in
    let b = number_bytes 4 n in
    let most : k ≤ 255 = t.most in
    let small : n ≤ most_value = t.value in
    let first : Rises es = rises_front es (e ∷ []) rise in
    respelled (pair es) (a ++ (b ++ (e.0 ++ e.1))) (pair_bytes e) e (group4 a b e.0 e.1 ∙ sym (pair_is e))
    (then_gives (field named.PairKeyLength 1 1 255) (λ k l. and_then (field named.PairValueLength 4 0 most_value l) (λ n l. and_then (key_above es k l) (λ key l. and_then (run named.PairValue n l) (λ value l. Ok ((key, value), l))))) a (b ++ (e.0 ++ e.1)) k e (fielded _ 1 1 255 k (omega arith) t.least t.most)
    (then_gives (field named.PairValueLength 4 0 most_value) (λ n l. and_then (key_above es k l) (λ key l. and_then (run named.PairValue n l) (λ value l. Ok ((key, value), l)))) b (e.0 ++ e.1) n e (fielded _ 4 0 most_value n (omega arith) (omega arith) t.value)
    (then_gives (key_above es k) (λ key l. and_then (run named.PairValue n l) (λ value l. Ok ((key, value), l))) e.0 e.1 e.0 e (key_given es k e.0 refl (same_key es e.0 e.1 [] first rise))
    (made_of (run named.PairValue n) (λ value l. Ok ((e.0, value), l)) e.1 e.1 e (ran _ n e.1 refl) (λ l. refl)))))

pairs_given : (before items : List Pair) → All PairTyped items → Rises (before ++ items) → Gives (pairs (length items) before) (flat_map pair_bytes items) (before ++ items)
pairs_given before [] t rise = λ at rest. (at, ap (λ (zs : List Pair). Ok (zs, record { at = at; bytes = rest })) (sym (none before)))
  where
    none : (xs : List Pair) → xs ++ [] ≡ xs
    none [] = refl
    none (x ∷ xs) = ap (λ (zs : List Pair). x ∷ zs) (none xs)
pairs_given before (e ∷ items) t rise =
    let grouped : before ++ e ∷ [] ++ items ≡ before ++ e ∷ items = append_assoc before (e ∷ []) items in
    let rises : Rises (before ++ e ∷ [] ++ items) = ap (λ (zs : List Pair). is_sorted key_cmp zs) grouped ∙ rise in
    respelled (pairs (suc (length items)) before) (pair_bytes e ++ flat_map pair_bytes items) (flat_map pair_bytes (e ∷ items)) (before ++ e ∷ items) (sym (flat_map-cons pair_bytes e items))
    (then_gives (pair before) (λ a l. pairs (length items) (before ++ a ∷ []) l) (pair_bytes e) (flat_map pair_bytes items) e (before ++ e ∷ items) (pair_given before e t.0 (rises_front (before ++ e ∷ []) items rises))
    (subst (λ (zs : List Pair). Gives (pairs (length items) (before ++ e ∷ [])) (flat_map pair_bytes items) zs) grouped (pairs_given (before ++ e ∷ []) items t.1 rises)))

-- maps

rising : (m : Contents) → Rises (entries m)
rising m = true_of (is_sorted key_cmp (entries m)) (entries_sorted m)

pub map_again : (m : Contents) → from_sorted (entries m) ≡ m
map_again m = same_entries_map (from_sorted (entries m)) m (list_is (entries m) (rising m))

contents_given : (m : Contents) → All PairTyped (entries m) → Gives (contents (length (entries m))) (flat_map pair_bytes (entries m)) m
contents_given m t = made_of (pairs (length (entries m)) []) (λ es l. Ok (from_sorted es, l)) (flat_map pair_bytes (entries m)) (entries m) m (pairs_given [] (entries m) t (rising m)) (λ l. ap (λ (x : Contents). Ok (x, l)) (map_again m))

pub map_given : (v : Version) (o : Opening) → OpensIn v o → length (entries o.contents) ≤ 4000000000 → All PairTyped (entries o.contents) → Gives (map_in v) (map_bytes v o.contents) o.contents
map_given V1 o opens few t = λ at rest. (at, ap (λ (p : Opening). Ok (p.contents, record { at = at; bytes = rest })) (sym opens))
map_given V2 o opens few t = λ at rest. (at, ap (λ (p : Opening). Ok (p.contents, record { at = at; bytes = rest })) (sym opens))
map_given (V3 g) o opens few t =
    let n = length (entries o.contents) in
    respelled (map_in (V3 g)) (number_bytes 4 n ++ flat_map pair_bytes (entries o.contents)) (contents_bytes o.contents) o.contents (sym (contents_are o.contents))
    (then_gives (field named.Keys 4 0 4000000000) contents (number_bytes 4 n) (flat_map pair_bytes (entries o.contents)) n o.contents (fielded _ 4 0 4000000000 n (omega arith) (omega arith) few) (contents_given o.contents t))

-- what is made of the number of replicas
abbrev sized : ℕ → ℕ → Left → Reading ℕ
sized at n l = cond (eqb n 3 || eqb n 5 || eqb n 7) (Ok (n / 2, l)) (Err (bad named.Replicas 1 ClusterSize (record { at = at; bytes = [] })))

a_size : (f at : ℕ) (l : Left) → 1 ≤ f → f ≤ 3 → sized at (size f) l ≡ Ok (f, l)
a_size f at l low high = elim (cases_eq f 1) [
  | inl is ↦ subst (λ (g : ℕ). sized at (size g) l ≡ Ok (g, l)) (sym is) refl
  | inr ne ↦ (elim (cases_eq f 2) [
    | inl is ↦ subst (λ (g : ℕ). sized at (size g) l ≡ Ok (g, l)) (sym is) refl
    | inr un ↦ (let is : f ≡ 3 = omega arith in subst (λ (g : ℕ). sized at (size g) l ≡ Ok (g, l)) (sym is) refl)
  ])
]

pub clustered : (f : ℕ) → 1 ≤ f → f ≤ 3 → Gives cluster (number_bytes 1 (size f)) f
clustered f low high at rest =
    let p = numbered named.Replicas 1 (size f) (omega arith) at rest in
    (p.0, ap (λ (o : Reading ℕ). and_then o (sized at)) p.1 ∙ a_size f at (record { at = p.0; bytes = rest }) low high)

-- the version's number
numbers_low : (v : Version) → 1 ≤ version_number v
numbers_low V1 = omega arith
numbers_low V2 = omega arith
numbers_low (V3 g) = omega arith

edition_given : (v : Version) (o : Opening) → HasItsGeneration v → OpensIn v o → o.base_stamp ≤ 281474976710655 → Gives (edition (version_number v)) (edition_bytes v o.base_stamp) (v, o.base_stamp)
edition_given V1 o generation opens high = λ at rest. (at, ap (λ (p : Opening). Ok ((V1, p.base_stamp), record { at = at; bytes = rest })) (sym opens))
edition_given V2 o generation opens high = λ at rest. (at, ap (λ (p : Opening). Ok ((V2, p.base_stamp), record { at = at; bytes = rest })) (sym opens))
edition_given (V3 g) o generation opens high =
    let most : g ≤ 4294967295 = generation.1 in
    then_gives (field named.Generation 4 1 4294967295) (λ g l. and_then (field named.BaseStamp 8 0 281474976710655 l) (λ base_stamp l. Ok ((V3 g, base_stamp), l))) (number_bytes 4 g) (number_bytes 8 o.base_stamp) g (V3 g, o.base_stamp) (fielded _ 4 1 4294967295 g (omega arith) generation.0 most)
    (made_of (field named.BaseStamp 8 0 281474976710655) (λ base_stamp l. Ok ((V3 g, base_stamp), l)) (number_bytes 8 o.base_stamp) o.base_stamp (V3 g, o.base_stamp) (fielded _ 8 0 281474976710655 o.base_stamp (omega arith) (omega arith) high) (λ l. refl))

-- the whole

group6 : (a b c d e f : List ℕ) → a ++ (b ++ (c ++ (d ++ (e ++ f)))) ≡ a ++ b ++ c ++ d ++ e ++ f
group6 a b c d e f = simp append_assoc

abbrev made : Version × ℕ → ℕ → ℕ → Contents → BundleHeader
made e f k m = record { version = e.0; cluster = f; opening = record { contents = m; base_stamp = e.1 }; receipts = k }

pub headed : (v : Version) (o : Opening) (f k : ℕ) → 1 ≤ f → f ≤ 3 → k < 2 ^ 32 → HasItsGeneration v → OpensIn v o → OpeningFits o → All PairTyped (entries o.contents)
    → Gives header (header_bytes v o (size f) k) (record { version = v; cluster = f; opening = o; receipts = k })
headed v o f k low high lt generation opens fits typed =
    let a = number_bytes 4 magic in
    let b = number_bytes 1 (version_number v) in
    let c = number_bytes 1 (size f) in
    let d = edition_bytes v o.base_stamp in
    let e = number_bytes 4 k in
    let m = map_bytes v o.contents in
    let h : BundleHeader = record { version = v; cluster = f; opening = o; receipts = k } in
    let n = version_number v in
    let least : 1 ≤ n = numbers_low v in
    let most : n ≤ 3 = version_low v in
    respelled header (a ++ (b ++ (c ++ (d ++ (e ++ m))))) (header_bytes v o (size f) k) h (group6 a b c d e m)
    (then_gives (field named.Magic 4 magic magic) (λ x l. and_then (field named.Version 1 1 3 l) (λ n l. and_then (cluster l) (λ f l. and_then (edition n l) (λ w l. and_then (number named.Receipts 4 l) (λ k l. and_then (map_in w.0 l) (λ m l. Ok (made w f k m, l)))))))
    a (b ++ (c ++ (d ++ (e ++ m)))) magic h (fielded _ 4 magic magic magic (omega arith) (omega arith) (omega arith))
    (then_gives (field named.Version 1 1 3) (λ n l. and_then (cluster l) (λ f l. and_then (edition n l) (λ w l. and_then (number named.Receipts 4 l) (λ k l. and_then (map_in w.0 l) (λ m l. Ok (made w f k m, l))))))
    b (c ++ (d ++ (e ++ m))) n h (fielded _ 1 1 3 n (omega arith) least most)
    (then_gives cluster (λ f l. and_then (edition n l) (λ w l. and_then (number named.Receipts 4 l) (λ k l. and_then (map_in w.0 l) (λ m l. Ok (made w f k m, l)))))
    c (d ++ (e ++ m)) f h (clustered f low high)
    (then_gives (edition n) (λ w l. and_then (number named.Receipts 4 l) (λ k l. and_then (map_in w.0 l) (λ m l. Ok (made w f k m, l))))
    d (e ++ m) (v, o.base_stamp) h (edition_given v o generation opens fits.1)
    (then_gives (number named.Receipts 4) (λ k l. and_then (map_in v l) (λ m l. Ok (made (v, o.base_stamp) f k m, l))) e m k h (numbered _ 4 k (omega arith))
    (made_of (map_in v) (λ m l. Ok (made (v, o.base_stamp) f k m, l)) m o.contents h (map_given v o opens fits.0 typed) (λ l. refl)))))))
