-- Where the entries of a table stand.
use Rattle.std.proofs.Common.{◌≡◌, ◌≢◌, ℕ, zero, suc, ◌-◌, ◌<◌, ◌≤◌, Bool, true, false, cond, Option, Some, None, List, [], ◌∷◌, ◌++◌, length, is_some, refl, sym, ap, subst, ◌∙◌, true≢false, arith, not}
use Rattle.std.specs.Prelude.{slice_get, slice_index_or, slice_set, take, ◌+◌, ◌||◌, ◌==◌, if◌then◌else◌}
use Rattle.std.specs.List.{IsDistinct, list_any}
use Rattle.std.specs.Map.{keys_of, lookup, set_value, values_of}
use Rattle.indexmap.specs.IndexMap.{set_value_at}
use Rattle.std.proofs.lemmas.Bool.{eq-eqb, eqb-true}
use Rattle.std.proofs.lemmas.List.{get_or-set_same, get_or-set_other, take_more}
use Rattle.std.proofs.lemmas.Map.Keys.{IsDistinct-push}
use Rattle.ep_base.specs.Instances.{IsInstance}
use Rattle.ep_space.specs.Entries.{same, slot, spot, spot_after, value_at, with_place, AreSpots}
use Rattle.ep_space.proofs.Order.{same_equiv, same_number}

after_within : (n m : ℕ) → n ≤ m → spot_after n ≤ suc m
after_within zero m h = omega arith
after_within (suc n) m h = omega (arith, h)

pub spot-within : (i : ℕ) (ks : List ℕ) → spot i ks ≤ length ks
spot-within i [] = omega arith
spot-within i (k ∷ ks) =
    let rest = after_within (spot i ks) (length ks) (spot-within i ks) in
    elim (same i k) as (λ b. cond b 1 (spot_after (spot i ks)) ≤ suc (length ks)) [ true ↦ omega arith | false ↦ rest ]

after_some : (n : ℕ) → 0 < spot_after n → 0 < n
after_some zero h = h
after_some (suc n) h = omega arith

after_not_one : (n : ℕ) → 1 ≡ spot_after n → ⊥
after_not_one zero e = omega (arith, e)
after_not_one (suc n) e = omega (arith, e)

after_suc : (m n : ℕ) → suc (suc m) ≡ spot_after n → suc m ≡ n
after_suc m zero e = absurd (omega (arith, e))
after_suc m (suc n) e = omega (arith, e)

-- What stands at an instance's spot is what is looked up.

module _ {X : Type 0} where
  value_after : (e : ℕ × X) (es : List (ℕ × X)) (n : ℕ) → value_at (e ∷ es) (spot_after n) ≡ value_at es n
  value_after e es zero = refl
  value_after e es (suc n) = refl

  pub value-spot : (i : ℕ) (es : List (ℕ × X)) → value_at es (spot i (keys_of es)) ≡ lookup (same i) es
  value-spot i [] = refl
  value-spot i (e ∷ es) =
      elim (same i e.0) as (λ b. value_at (e ∷ es) (cond b 1 (spot_after (spot i (keys_of es)))) ≡ cond b (Some e.1) (lookup (same i) es)) [
        | true ↦ refl
        | false ↦ value_after e es (spot i (keys_of es)) ∙ value-spot i es
      ]

  pub spot-none : (i : ℕ) (es : List (ℕ × X)) → spot i (keys_of es) ≡ 0 → lookup (same i) es ≡ None
  spot-none i es e = sym (value-spot i es) ∙ ap (value_at es) e

  pub spot-some : (i : ℕ) (es : List (ℕ × X)) → 0 < spot i (keys_of es) → is_some (lookup (same i) es) ≡ true
  spot-some i [] h = absurd (omega (arith, h))
  spot-some i (e ∷ es) h = go (same i e.0) h (spot-some i es)
    where
      go : (b : Bool) → 0 < cond b 1 (spot_after (spot i (keys_of es))) → (0 < spot i (keys_of es) → is_some (lookup (same i) es) ≡ true)
          → is_some (cond b (Some e.1) (lookup (same i) es)) ≡ true
      go true t rest = refl
      go false t rest = rest (after_some (spot i (keys_of es)) t)

  pub keys-push : (es : List (ℕ × X)) (e : ℕ × X) → keys_of (es ++ e ∷ []) ≡ keys_of es ++ e.0 ∷ []
  keys-push [] e = refl
  keys-push (f ∷ es) e = ap (λ (ks : List ℕ). f.0 ∷ ks) (keys-push es e)

-- An entry more.

after_none : (n : ℕ) → spot_after n ≡ 0 → n ≡ 0
after_none zero e = refl
after_none (suc n) e = absurd (omega (arith, e))

spot-push_new : (i : ℕ) (ks : List ℕ) → spot i ks ≡ 0 → spot i (ks ++ i ∷ []) ≡ suc (length ks)
spot-push_new i [] e = ap (λ b. cond b 1 0) (same_equiv.refl i)
spot-push_new i (k ∷ ks) e = go (same i k) e (spot-push_new i ks)
  where
    go : (b : Bool) → cond b 1 (spot_after (spot i ks)) ≡ 0 → (spot i ks ≡ 0 → spot i (ks ++ i ∷ []) ≡ suc (length ks))
        → cond b 1 (spot_after (spot i (ks ++ i ∷ []))) ≡ suc (suc (length ks))
    go true t rest = absurd (omega (arith, t))
    go false t rest = ap spot_after (rest (after_none (spot i ks) t))

spot-push_other : (i j : ℕ) (ks : List ℕ) → same i j ≡ false → spot i (ks ++ j ∷ []) ≡ spot i ks
spot-push_other i j [] e = ap (λ b. cond b 1 0) e
spot-push_other i j (k ∷ ks) e = ap (λ n. cond (same i k) 1 (spot_after n)) (spot-push_other i j ks e)

absent : (i : ℕ) (ks : List ℕ) → spot i ks ≡ 0 → list_any (same i) ks ≡ false
absent i [] e = refl
absent i (k ∷ ks) e = go (same i k) e (absent i ks)
  where
    go : (b : Bool) → cond b 1 (spot_after (spot i ks)) ≡ 0 → (spot i ks ≡ 0 → list_any (same i) ks ≡ false) → (b || list_any (same i) ks) ≡ false
    go true t rest = absurd (omega (arith, t))
    go false t rest = rest (after_none (spot i ks) t)

-- Slots.

pub slot-is : (i j : ℕ) → IsInstance i → IsInstance j → slot i ≡ slot j → i ≡ j
slot-is i j h k e = let a = h.0 in let b = k.0 in omega (arith, a, b, e)

pub spots-same : (ns more ks : List ℕ) → AreSpots ns ks → ((k : ℕ) → slice_index_or more k 0 ≡ slice_index_or ns k 0) → AreSpots more ks
spots-same ns more ks s same_at = record {
  distinct = s.distinct;
  reported = λ i h. same_at (slot i) ∙ s.reported i h;
}

pub spots-push : (ns ks : List ℕ) (j n : ℕ) → AreSpots ns ks → IsInstance j → slot j < length ns → slice_index_or ns (slot j) 0 ≡ 0 → n ≡ suc (length ks) → AreSpots (slice_set ns (slot j) n) (ks ++ j ∷ [])
spots-push ns ks j n s known within free is = record {
  distinct = IsDistinct-push same_equiv ks j s.distinct (absent j ks none);
  reported = λ i h. go i h (same i j) refl;
}
  where
    none : spot j ks ≡ 0
    none = sym (s.reported j known) ∙ free

    go : (i : ℕ) → IsInstance i → (b : Bool) → same i j ≡ b → slice_index_or (slice_set ns (slot j) n) (slot i) 0 ≡ spot i (ks ++ j ∷ [])
    go i h true e =
        let it : j ≡ i = sym (eqb-true i j (sym (same_number i j) ∙ e)) in
        subst (λ q. slice_index_or (slice_set ns (slot j) n) (slot q) 0 ≡ spot q (ks ++ j ∷ [])) it (get_or-set_same ns (slot j) n 0 within ∙ is ∙ sym (spot-push_new j ks none))
    go i h false e =
        get_or-set_other ns (slot j) (slot i) n 0 (λ t. true≢false (sym (same_equiv.refl j) ∙ subst (λ q. same q j ≡ false) (slot-is i j h known t) e))
        ∙ s.reported i h
        ∙ sym (spot-push_other i j ks e)

-- What a spot says.

pub spot-reported : (ns at ks : List ℕ) (i n : ℕ) → AreSpots ns ks → at ≡ ns → IsInstance i → n ≡ slice_index_or at (slot i) 0 → n ≡ spot i ks
spot-reported ns at ks i n s e h is = is ∙ ap (λ xs. slice_index_or xs (slot i) 0) e ∙ s.reported i h

module _ {X : Type 0} where
  pub placed-there : (es : List (ℕ × Option X)) (i n : ℕ) → n ≡ spot i (keys_of es) → n ≢ 0 → es ≡ with_place es i
  placed-there es i n is some =
      let there : 0 < spot i (keys_of es) = omega (arith, is, some) in
      ap (λ b. if b then es else es ++ (i, None) ∷ []) (sym (spot-some i es there))

  pub placed-new : (es : List (ℕ × Option X)) (i n : ℕ) → n ≡ spot i (keys_of es) → n ≡ 0 → es ++ (i, None) ∷ [] ≡ with_place es i
  placed-new es i n is none = ap (λ b. if b then es else es ++ (i, None) ∷ []) (sym (ap is_some (spot-none i es (sym is ∙ none))))

  pub length-keys : (es : List (ℕ × X)) → length (keys_of es) ≡ length es
  length-keys [] = refl
  length-keys (e ∷ es) = ap suc (length-keys es)

  pub length-push : (xs : List X) (x : X) → length (xs ++ x ∷ []) ≡ suc (length xs)
  length-push [] x = refl
  length-push (y ∷ ys) x = ap suc (length-push ys x)

module _ {X : Type 0} where
  pub has-spot : (es : List (ℕ × X)) (i n : ℕ) → n ≡ spot i (keys_of es) → (not (n == 0)) ≡ is_some (lookup (same i) es)
  has-spot es i n is = go (n == 0) refl
    where
      go : (b : Bool) → (n == 0) ≡ b → not b ≡ is_some (lookup (same i) es)
      go true e = sym (ap is_some (spot-none i es (sym is ∙ eqb-true n 0 e)))
      go false e =
          let some : n ≢ 0 = λ t. true≢false (sym (eq-eqb n 0 t) ∙ e) in
          sym (spot-some i es (omega (arith, is, some)))

  pub spot-there : (es : List (ℕ × X)) (i n : ℕ) → n ≡ spot i (keys_of es) → is_some (lookup (same i) es) ≡ true → 0 < n
  spot-there es i zero is h = absurd (true≢false (sym h ∙ ap is_some (spot-none i es (sym is))))
  spot-there es i (suc n) is h = omega arith

  pub value-here : (es : List (ℕ × X)) (n : ℕ) (x : X) → n ≢ 0 → slice_get (values_of es) (n - 1) ≡ Some x → value_at es n ≡ Some x
  value-here es zero x some at = absurd (some refl)
  value-here es (suc n) x some at = let less : n ≡ suc n - 1 = omega arith in ap (slice_get (values_of es)) less ∙ at

  -- A value in the place of another.

  set-spot : (i : ℕ) (w : X) (es : List (ℕ × X)) (n : ℕ) → suc n ≡ spot i (keys_of es) → set_value_at es n w ≡ set_value (same i) es w
  set-spot i w [] n is = absurd (omega (arith, is))
  set-spot i w (f ∷ es) n is = go (same i f.0) n is (λ m t. set-spot i w es m t)
    where
      go : (b : Bool) (m : ℕ) → suc m ≡ cond b 1 (spot_after (spot i (keys_of es)))
          → ((p : ℕ) → suc p ≡ spot i (keys_of es) → set_value_at es p w ≡ set_value (same i) es w)
          → set_value_at (f ∷ es) m w ≡ cond b ((f.0, w) ∷ es) (f ∷ set_value (same i) es w)
      go true zero t rest = refl
      go true (suc m) t rest = absurd (omega (arith, t))
      go false zero t rest = absurd (after_not_one (spot i (keys_of es)) t)
      go false (suc m) t rest = ap (λ (xs : List (ℕ × X)). f ∷ xs) (rest m (after_suc m (spot i (keys_of es)) t))

  pub spot-read : (es : List (ℕ × X)) (i n : ℕ) (x : X) → n ≡ spot i (keys_of es) → 0 < n → slice_get (values_of es) (n - 1) ≡ Some x → Some x ≡ lookup (same i) es
  spot-read es i n x is some at =
      let one_more : suc (n - 1) ≡ n = omega (arith, some) in
      sym at ∙ ap (value_at es) (one_more ∙ is) ∙ value-spot i es

  pub spot-written : (es : List (ℕ × X)) (i n : ℕ) (w : X) → n ≡ spot i (keys_of es) → 0 < n → set_value_at es (n - 1) w ≡ set_value (same i) es w
  spot-written es i n w is some =
      let one_more : suc (n - 1) ≡ n = omega (arith, some) in
      set-spot i w es (n - 1) (one_more ∙ is)

  -- What stands at an index, and another value in its place.

  pub value-or : (es : List (ℕ × X)) (n : ℕ) (d : ℕ × X) → n < length es → slice_get (values_of es) n ≡ Some (slice_index_or es n d).1
  value-or [] n d h = absurd (omega (arith, h))
  value-or (e ∷ es) zero d h = refl
  value-or (e ∷ es) (suc n) d h = value-or es n d (omega (arith, h))

  pub set-or : (es : List (ℕ × X)) (n : ℕ) (d : ℕ × X) (w : X) → n < length es → slice_set es n ((slice_index_or es n d).0, w) ≡ set_value_at es n w
  set-or [] n d w h = absurd (omega (arith, h))
  set-or (e ∷ es) zero d w h = refl
  set-or (e ∷ es) (suc n) d w h = ap (λ (xs : List (ℕ × X)). e ∷ xs) (set-or es n d w (omega (arith, h)))

  -- The same of a spot.

  pub spot-inside : (es : List (ℕ × X)) (i n : ℕ) → n ≡ spot i (keys_of es) → 0 < n → n - 1 < length es
  spot-inside es i n is some =
      let ks : List ℕ = keys_of es in
      let most = spot-within i ks in
      let as_many = length-keys es in
      omega (arith, is, some, most, as_many)

  pub spot-value : (es : List (ℕ × X)) (i n : ℕ) (e : ℕ × X) → n ≡ spot i (keys_of es) → 0 < n → e ≡ slice_index_or es (n - 1) e → Some e.1 ≡ lookup (same i) es
  spot-value es i n e is some at = spot-read es i n e.1 is some (value-or es (n - 1) e (spot-inside es i n is some) ∙ ap (λ (f : ℕ × X). Some f.1) (sym at))

  pub spot-set : (es : List (ℕ × X)) (i n : ℕ) (e : ℕ × X) (w : X) → n ≡ spot i (keys_of es) → 0 < n → e ≡ slice_index_or es (n - 1) e → slice_set es (n - 1) (e.0, w) ≡ set_value (same i) es w
  spot-set es i n e w is some at =
      ap (λ (f : ℕ × X). slice_set es (n - 1) (f.0, w)) at ∙ set-or es (n - 1) e w (spot-inside es i n is some) ∙ spot-written es i n w is some

pub spots-none : (ns ks : List ℕ) → ns ≡ [] → ks ≡ [] → AreSpots ns ks
unfolding IsDistinct
spots-none ns ks e f = subst (λ qs. AreSpots ns qs) (sym f) (subst (λ ms. AreSpots ms []) (sym e) (record { distinct = tt; reported = λ i h. refl }))

-- The items in front of one, and this one.

pub take-item : {X : Type 0} (xs : List X) (k : ℕ) (x : X) → k < length xs → x ≡ slice_index_or xs k x → take (k + 1) xs ≡ take k xs ++ x ∷ []
take-item xs k x inside at = take_more xs k x inside ∙ ap (λ y. take k xs ++ y ∷ []) (sym at)
