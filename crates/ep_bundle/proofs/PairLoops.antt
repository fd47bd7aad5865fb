-- Reading the keys of a map, one after the other.
use Rattle.std.proofs.Common.{◌≡◌, ℕ, suc, ◌+◌, ◌-◌, ◌≤◌, ◌<◌, List, [], ◌∷◌, ◌++◌, length, length-append, Option, Some, Result, Ok, Err, refl, sym, ap, ◌∙◌, arith}
use Rattle.std.specs.Prelude.{IsErrAnd}
use Rattle.std.specs.FinMap.{entries, from_sorted}
use Rattle.ep_rules.specs.OneMap.{Contents, empty}
use Rattle.ep_exec.proofs.Rising.{none_listed}
use Rattle.ep_bundle.specs.Headers.{Pair, contents, pair, pairs}
use Rattle.ep_bundle.specs.Reading.{Reading, Reads, and_then}
use Rattle.ep_bundle.specs.declared.bundle_fault.BundleFault.{BundleFault}
use Rattle.ep_bundle.proofs.Loops.{one_more}
use Rattle.ep_bundle.proofs.Readings.{fails, same_reading}
use Rattle.ep_bundle.proofs.WrittenHeaders.{map_again}

-- k of n were read, and these are what the map has
abbrev pub Filling : ℕ → ℕ → List Pair → ℕ → ℕ → Option (List ℕ) → Option (List ℕ) → Type 0
Filling n k es p0 p left0 left = (zs : List ℕ) → left0 ≡ Some zs → (ys : List ℕ) × (left ≡ Some ys) × (pairs n [] (record { at = p0; bytes = zs }) ≡ pairs (n - k) es (record { at = p; bytes = ys }))

pub none_filled : (n : ℕ) (m : Contents) (p : ℕ) (left : Option (List ℕ)) → m ≡ empty → Filling n 0 (entries m) p p left left
none_filled n m p left is zs h = (zs, h, (λ t. pairs (same t) (sym none t) (record { at = p; bytes = zs })))
  where
    same : n ≡ n - 0
    same = omega arith

    none : entries m ≡ []
    none = ap (λ (x : Contents). entries x) is ∙ none_listed

pub none_many : (m : Contents) → m ≡ empty → length (entries m) ≡ 0
none_many m is = ap (λ (x : Contents). length (entries x)) is ∙ ap length none_listed

-- one key more
pub one_filled : (n k : ℕ) (es es' : List Pair) (p0 p q : ℕ) (left0 left left' : Option (List ℕ)) → k < n → Filling n k es p0 p left0 left
    → (key : List ℕ) × (value : List ℕ) × (es' ≡ es ++ (key, value) ∷ [])
    → ((ys : List ℕ) → left ≡ Some ys → (key value : List ℕ) → es' ≡ es ++ (key, value) ∷ [] → Reads (pair es (record { at = p; bytes = ys })) (Ok (key, value)) q left') → Filling n (k + 1) es' p0 q left0 left'
one_filled n k es es' p0 p q left0 left left' lt g more step zs h =
    let i = g zs h in
    let s = step i.0 i.1 more.0 more.1 more.2 in (
      s.0,
      s.1,
      i.2 ∙ ap (λ m. pairs m es (record { at = p; bytes = i.0 })) (one_more n k lt)
          ∙ ap (λ (o : Reading Pair). and_then o (λ e l. pairs (n - (k + 1)) (es ++ e ∷ []) l)) s.2
          ∙ ap (λ xs. pairs (n - (k + 1)) xs (record { at = q; bytes = s.0 })) (sym more.2),
    )

pub one_many : (k : ℕ) (es es' : List Pair) → length es ≡ k → (key : List ℕ) × (value : List ℕ) × (es' ≡ es ++ (key, value) ∷ []) → length es' ≡ k + 1
one_many k es es' len more = ap length more.2 ∙ length-append es ((more.0, more.1) ∷ []) ∙ ap (λ n. n + 1) len

-- a key that isn't read
pub none_more : (n k : ℕ) (es : List Pair) (e : BundleFault) (r : Result Contents BundleFault) (p0 p q : ℕ) (left0 left left' : Option (List ℕ)) → k < n → Filling n k es p0 p left0 left
    → ((ys : List ℕ) → left ≡ Some ys → Reads {A = Pair} (pair es (record { at = p; bytes = ys })) (Err e) q left') → IsErrAnd r (λ x. x ≡ e)
    → (zs : List ℕ) → left0 ≡ Some zs → Reads (contents n (record { at = p0; bytes = zs })) r q left'
none_more n k es e r p0 p q left0 left left' lt g step is zs h =
    let i = g zs h in
    fails (pairs n [] (record { at = p0; bytes = zs })) (λ es l. Ok (from_sorted es, l)) e r q q left' left'
    (same_reading (pairs n [] (record { at = p0; bytes = zs })) (pairs (suc (n - (k + 1))) es (record { at = p; bytes = i.0 })) (Err e) q left' (i.2 ∙ ap (λ m. pairs m es (record { at = p; bytes = i.0 })) (one_more n k lt))
    (fails (pair es (record { at = p; bytes = i.0 })) (λ e l. pairs (n - (k + 1)) (es ++ e ∷ []) l) e (Err e) q q left' left' (step i.0 i.1) refl)) is

-- all were read
pub all_filled : (n k : ℕ) (m : Contents) (p0 p : ℕ) (left0 left : Option (List ℕ)) → n ≤ k → Filling n k (entries m) p0 p left0 left → (zs : List ℕ) → left0 ≡ Some zs → Reads (contents n (record { at = p0; bytes = zs })) (Ok m) p left
all_filled n k m p0 p left0 left le g zs h =
    let i = g zs h in
    let none : n - k ≡ 0 = omega arith in (
      i.0,
      i.1,
      ap (λ (o : Reading (List Pair)). and_then o (λ es l. Ok (from_sorted es, l))) (i.2 ∙ ap (λ n. pairs n (entries m) (record { at = p; bytes = i.0 })) none)
          ∙ ap (λ (x : Contents). Ok (x, record { at = p; bytes = i.0 })) (map_again m),
    )
