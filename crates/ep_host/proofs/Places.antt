-- Two lists, place by place.
use Rattle.std.proofs.Common.{◌≡◌, ◌≢◌, ℕ, ◌+◌, ◌-◌, ◌<◌, ◌≤◌, List, ◌++◌, length, get_or, set, refl, sym, ◌∙◌, subst, arith, length-append, get_or-set_same, get_or-set_other, ⊎_elim}
use Rattle.std.proofs.Math.ListN.{length-set}
use Rattle.std.proofs.lemmas.List.{get_or_default, get_or_append_left, get_or-append_right}
use Rattle.std.proofs.lemmas.Bool.{cases_lt}
use Rattle.std.proofs.lemmas.Bool.Decides.{eqb_tells}
use Rattle.ep_host.specs.Pointwise.{Each, EachAt}

module _ {X : Type 0} where
  pub each_self : (R : X → X → Type 0) (xs : List X) → ((a : X) → R a a) → Each R xs xs
  each_self R xs same = record { len = refl; at = λ i d low. same (get_or xs i d) }

  -- of two lists, of which one is the other with one place changed
  pub each_at :
      (R : X → X → Type 0) (xs : List X) (i : ℕ) (y b : X) → ((k : ℕ) (d : X) → k < length xs → k ≢ i → R (get_or xs k d) (get_or xs k d)) →
      i < length xs → R (get_or xs i b) y → Each R xs (set xs i y)
  each_at R xs i y b same low at = record {
    len = length-set xs i y;
    at = λ k d below. ⊎_elim
        (λ (e : _). subst (λ (j : ℕ). R (get_or xs j d) (get_or (set xs i y) j d)) (sym e.1) (rw (get_or-set_same xs i y d low) (subst (λ (z : X). R z y) (get_or_default xs i b d low) at)))
        (λ (e : _). rw (get_or-set_other xs i k y d e.1) (same k d below e.1))
        (eqb_tells k i);
  }

  -- the same, where the place counts
  pub place_at :
      (R : ℕ → X → X → Type 0) (xs : List X) (i : ℕ) (y b : X) → ((k : ℕ) (d : X) → k < length xs → k ≢ i → R k (get_or xs k d) (get_or xs k d)) →
      i < length xs → R i (get_or xs i b) y → EachAt R xs (set xs i y)
  place_at R xs i y b same low at = record {
    len = length-set xs i y;
    at = λ k d below. ⊎_elim
        (λ (e : _). subst (λ (j : ℕ). R j (get_or xs j d) (get_or (set xs i y) j d)) (sym e.1) (rw (get_or-set_same xs i y d low) (subst (λ (z : X). R i z y) (get_or_default xs i b d low) at)))
        (λ (e : _). rw (get_or-set_other xs i k y d e.1) (same k d below e.1))
        (eqb_tells k i);
  }

  pub place_self : (R : ℕ → X → X → Type 0) (xs : List X) → ((k : ℕ) (d : X) → k < length xs → R k (get_or xs k d) (get_or xs k d)) → EachAt R xs xs
  place_self R xs same = record { len = refl; at = λ i d low. same i d low }

  pub place_place : (R S T : ℕ → X → X → Type 0) → ((k : ℕ) (a b c : X) → R k a b → S k b c → T k a c) → (xs ys zs : List X) → EachAt R xs ys → EachAt S ys zs → EachAt T xs zs
  place_place R S T join xs ys zs h k = record {
    len = k.len ∙ h.len;
    at = λ i d low. join i _ _ _ (h.at i d low) (k.at i d (rw h.len low));
  }

  pub each_set : (R : X → X → Type 0) (xs : List X) (i : ℕ) (y b : X) → ((a : X) → R a a) → i < length xs → R (get_or xs i b) y → Each R xs (set xs i y)
  each_set R xs i y b same low at = each_at R xs i y b (λ k d below other. same (get_or xs k d)) low at

  pub each_each : (R S T : X → X → Type 0) → ((a b c : X) → R a b → S b c → T a c) → (xs ys zs : List X) → Each R xs ys → Each S ys zs → Each T xs zs
  each_each R S T join xs ys zs h k = record {
    len = k.len ∙ h.len;
    at = λ i d low. join _ _ _ (h.at i d low) (k.at i d (rw h.len low));
  }

  pub each_weaker : (R S : X → X → Type 0) → ((a b : X) → R a b → S a b) → (xs ys : List X) → Each R xs ys → Each S xs ys
  each_weaker R S weak xs ys h = record { len = h.len; at = λ i d low. weak _ _ (h.at i d low) }

  pub each_append : (R : X → X → Type 0) (xs xs' ys ys' : List X) → Each R xs xs' → Each R ys ys' → Each R (xs ++ ys) (xs' ++ ys')
  each_append R xs xs' ys ys' h k = record {
    len = omega (arith, length-append xs ys, length-append xs' ys', h.len, k.len);
    at = λ i d low. ⊎_elim
        (λ (l : i < length xs). let l' : i < length xs' = omega (arith, h.len) in
        subst (λ (z : X). R z (get_or (xs' ++ ys') i d)) (sym (get_or_append_left xs ys d i l)) (subst (λ (z : X). R (get_or xs i d) z) (sym (get_or_append_left xs' ys' d i l')) (h.at i d l)))
        (λ (l : length xs ≤ i). let n : i - length xs < length ys = omega (arith, length-append xs ys) in
        subst (λ (z : X). R z (get_or (xs' ++ ys') i d)) (sym (get_or-append_right xs ys (length xs) i d refl l))
        (subst (λ (z : X). R (get_or ys (i - length xs) d) z) (sym (get_or-append_right xs' ys' (length xs) i d h.len l)) (k.at (i - length xs) d n)))
        (cases_lt i (length xs));
  }

  -- the elements at the first places so related, and the others the same
  pub record Firsts (R : X → X → Type 0) (place : ℕ) (xs ys : List X) : Type 0 where
    pub len : length ys ≡ length xs
    pub done : (k : ℕ) (d : X) → k < place → R (get_or xs k d) (get_or ys k d)
    pub left : (k : ℕ) (d : X) → place ≤ k → get_or ys k d ≡ get_or xs k d

  pub firsts_none : (R : X → X → Type 0) (xs : List X) → Firsts R 0 xs xs
  firsts_none R xs = record { len = refl; done = λ k d low. absurd (omega arith); left = λ k d low. refl }

  -- one place more
  pub firsts_more :
      (R S : X → X → Type 0) (place : ℕ) (xs ys : List X) (was y : X) → ((a b : X) → R a b → S a b) → place < length xs → Firsts R place xs ys → was ≡ get_or ys place was → S was y → Firsts S (place + 1) xs (set ys place y)
  firsts_more R S place xs ys was y weak low h is s =
      let low' : place < length ys = omega (arith, h.len) in record {
        len = length-set ys place y ∙ h.len;
        done = λ k d below. ⊎_elim
            (λ (e : _). let at : k ≡ place = e.1 in
            let old : was ≡ get_or xs place d = is ∙ get_or_default ys place was d low' ∙ h.left place d (omega arith) in
            rw at (rw (get_or-set_same ys place y d low') (subst (λ (z : X). S z y) old s)))
            (λ (e : _). let below' : k < place = (let other = e.1 in grind (arith, other)) in rw (get_or-set_other ys place k y d e.1) (weak _ _ (h.done k d below')))
            (eqb_tells k place);
        left = λ k d below. ⊎_elim
            (λ (e : _). let at : k ≡ place = e.1 in absurd (omega arith))
            (λ (e : _). get_or-set_other ys place k y d e.1 ∙ h.left k d (omega arith))
            (eqb_tells k place);
      }

  pub firsts_all : (R : X → X → Type 0) (place : ℕ) (xs ys : List X) → length xs ≤ place → Firsts R place xs ys → Each R xs ys
  firsts_all R place xs ys all h = record { len = h.len; at = λ k d low. h.done k d (omega arith) }
