-- Instances in rising order, one after the other.
use Rattle.std.proofs.Common.{◌≡◌, ℕ, zero, suc, ◌+◌, ◌-◌, ◌≤◌, ◌<◌, Bool, true, false, cond, ltb, List, [], ◌∷◌, ◌++◌, length, Option, Some, Result, Ok, Err, refl, sym, ap, ◌∙◌, subst, arith}
use Rattle.std.specs.Prelude.{IsErrAnd}
use Rattle.std.proofs.lemmas.Bool.{lt-ltb, ltb-true, le-ltb, ltb-false}
use Rattle.ep_base.specs.Deps.{IsRising}
use Rattle.ep_base.specs.declared.version_kind.VersionKind.TheVariants.{V3}
use Rattle.ep_bundle.specs.Reading.{Left, Reading, Reads, and_then, bad}
use Rattle.ep_bundle.specs.Stages.{instance}
use Rattle.ep_bundle.specs.declared.bundle_fault.BundleFault.{BundleFault}
use Rattle.ep_bundle.specs.declared.bundle_field.BundleField.TheVariants.{Other}
use Rattle.ep_bundle.specs.declared.wanted.Wanted.TheVariants.{Higher}
use Rattle.ep_bundle.proofs.Loops.{one_more}
use Rattle.ep_bundle.proofs.Readings.{fails, same_reading}
use Rattle.ep_opening.specs.Reading.{above, last_of, rising}

-- a rising list stays so with one at its end that is above the last one, and with no other

rises_from : (j : ℕ) (js : List ℕ) (i : ℕ) → IsRising (j ∷ js) → last_of j js < i → IsRising ((j ∷ js) ++ i ∷ [])
rises_from j [] i h lt = (lt, (tt, tt))
rises_from j (k ∷ ks) i h lt = (h.0, rises_from k ks i h.1 lt)

last_below : (j : ℕ) (js : List ℕ) (i : ℕ) → IsRising ((j ∷ js) ++ i ∷ []) → last_of j js < i
last_below j [] i h = h.0
last_below j (k ∷ ks) i h = last_below k ks i h.1

pub rises_on : (is : List ℕ) (i : ℕ) → IsRising is → last_of 0 is < i → IsRising (is ++ i ∷ [])
rises_on [] i h lt = (tt, tt)
rises_on (j ∷ js) i h lt = rises_from j js i h lt

pub last_is_below : (is : List ℕ) (i : ℕ) → 1 ≤ i → IsRising (is ++ i ∷ []) → last_of 0 is < i
last_is_below [] i least h = least
last_is_below (j ∷ js) i least h = last_below j js i h

-- an instance was read: it stands above the others, or it doesn't

pub is_above : (g : ℕ) (is : List ℕ) (l : Left) (i p : ℕ) (left : Option (List ℕ)) → Reads (instance (V3 g) 7 l) (Ok i) p left → 1 ≤ i → IsRising (is ++ i ∷ []) → Reads (above g is l) (Ok i) p left
is_above g is l i p left h least rise =
    let test : ltb (last_of 0 is) i ≡ true = lt-ltb (last_of 0 is) i (last_is_below is i least rise) in (
      h.0,
      h.1,
      ap (λ (o : Reading ℕ). and_then o (λ i l'. cond (ltb (last_of 0 is) i) (Ok (i, l')) (Err (bad Other 3 Higher l)))) h.2
          ∙ ap (λ (b : Bool). cond b (Ok (i, record { at = p; bytes = h.0 })) (Err (bad Other 3 Higher l))) test,
    )

pub is_not_above : (g : ℕ) (is : List ℕ) (l : Left) (i p q : ℕ) (left left' : Option (List ℕ)) → Reads (instance (V3 g) 7 l) (Ok i) p left → IsRising is → ¬ IsRising (is ++ i ∷ []) → Reads {A = ℕ} (above g is l) (Err (bad Other 3 Higher l)) q left'
is_not_above g is l i p q left left' h rise not_so =
    ap (λ (o : Reading ℕ). and_then o (λ i l'. cond (ltb (last_of 0 is) i) (Ok (i, l')) (Err (bad Other 3 Higher l)))) h.2
    ∙ go (ltb (last_of 0 is) i) refl
  where
    go : (b : Bool) → ltb (last_of 0 is) i ≡ b → cond {A = Reading ℕ} b (Ok (i, record { at = p; bytes = h.0 })) (Err (bad Other 3 Higher l)) ≡ Err (bad Other 3 Higher l)
    go true e = absurd (not_so (rises_on is i rise (ltb-true (last_of 0 is) i e)))
    go false e = refl

-- one after the other

-- k of n were read, and are these
abbrev pub Climbing : ℕ → ℕ → ℕ → List ℕ → ℕ → ℕ → Option (List ℕ) → Option (List ℕ) → Type 0
Climbing g n k is p0 p left0 left = (zs : List ℕ) → left0 ≡ Some zs → (ys : List ℕ) × (left ≡ Some ys) × (rising g n [] (record { at = p0; bytes = zs }) ≡ rising g (n - k) is (record { at = p; bytes = ys }))

pub none_climbed : (g n : ℕ) (is : List ℕ) (p : ℕ) (left : Option (List ℕ)) → is ≡ [] → Climbing g n 0 is p p left left
none_climbed g n is p left e zs h = (zs, h, (λ t. rising g (same t) (sym e t) (record { at = p; bytes = zs })))
  where
    same : n ≡ n - 0
    same = omega arith

pub one_climbed : (g n k : ℕ) (is is' : List ℕ) (i p0 p q : ℕ) (left0 left left' : Option (List ℕ)) → k < n → Climbing g n k is p0 p left0 left
    → ((ys : List ℕ) → left ≡ Some ys → Reads (above g is (record { at = p; bytes = ys })) (Ok i) q left') → is' ≡ is ++ i ∷ [] → Climbing g n (k + 1) is' p0 q left0 left'
one_climbed g n k is is' i p0 p q left0 left left' lt c step e zs h =
    let s = c zs h in
    let t = step s.0 s.1 in (
      t.0,
      t.1,
      s.2 ∙ ap (λ m. rising g m is (record { at = p; bytes = s.0 })) (one_more n k lt)
          ∙ ap (λ (o : Reading ℕ). and_then o (λ i l. rising g (n - (k + 1)) (is ++ i ∷ []) l)) t.2
          ∙ ap (λ xs. rising g (n - (k + 1)) xs (record { at = q; bytes = t.0 })) (sym e),
    )

pub none_above : (g n k : ℕ) (is : List ℕ) (e : BundleFault) (r : Result (List ℕ) BundleFault) (p0 p q : ℕ) (left0 left left' : Option (List ℕ)) → k < n → Climbing g n k is p0 p left0 left
    → ((ys : List ℕ) → left ≡ Some ys → Reads {A = ℕ} (above g is (record { at = p; bytes = ys })) (Err e) q left') → IsErrAnd r (λ x. x ≡ e)
    → (zs : List ℕ) → left0 ≡ Some zs → Reads (rising g n [] (record { at = p0; bytes = zs })) r q left'
none_above g n k is e r p0 p q left0 left left' lt c step err zs h =
    let s = c zs h in
    same_reading (rising g n [] (record { at = p0; bytes = zs })) (rising g (suc (n - (k + 1))) is (record { at = p; bytes = s.0 })) r q left' (s.2 ∙ ap (λ m. rising g m is (record { at = p; bytes = s.0 })) (one_more n k lt))
    (fails (above g is (record { at = p; bytes = s.0 })) (λ i l. rising g (n - (k + 1)) (is ++ i ∷ []) l) e r q q left' left' (step s.0 s.1) err)

pub all_climbed : (g n k : ℕ) (is : List ℕ) (p0 p : ℕ) (left0 left : Option (List ℕ)) → n ≤ k → Climbing g n k is p0 p left0 left → (zs : List ℕ) → left0 ≡ Some zs → Reads (rising g n [] (record { at = p0; bytes = zs })) (Ok is) p left
all_climbed g n k is p0 p left0 left le c zs h =
    let s = c zs h in
    let none : n - k ≡ 0 = omega arith in
    (s.0, s.1, s.2 ∙ ap (λ m. rising g m is (record { at = p; bytes = s.0 })) none)
