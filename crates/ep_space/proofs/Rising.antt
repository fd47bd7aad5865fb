-- Rising lists, with a number more or less.
use Rattle.std.proofs.Common.{◌≡◌, ◌≢◌, ℕ, zero, suc, ◌<◌, ◌≤◌, Bool, true, false, cond, List, [], ◌∷◌, length, Some, refl, sym, ap, subst, ◌∙◌, arith, true≢false, ◌⊎◌, inl, inr, ◌==◌, slice_get}
use Rattle.std.specs.List.{AllByRecursion, insert, remove}
use Rattle.std.specs.Prelude.{nat_lt}
use Rattle.std.proofs.lemmas.Bool.{eq-eqb, eqb-true, lt-ltb, ltb-true, le-ltb, ltb-false}
use Rattle.std.proofs.lemmas.Option.{none-some, same_Some}
use Rattle.ep_base.specs.Deps.{IsRising, IsBelowFirst, union}
use Rattle.ep_base.specs.Places.{Has}
use Rattle.ep_base.proofs.Members.{first_below, same_members, union-cases, Has-union}
use Rattle.ep_base.proofs.Union.{IsRising-union}
use Rattle.ep_base.proofs.Places.{Has-empty, Has-cons_cases, Has-head, Has-tail}
use Rattle.ep_space.specs.Index.{count_below, with_instance, without}
use Rattle.ep_rules.proofs.Places.{has_single}

-- what stands at a place is a member
pub Has-at : (xs : List ℕ) (k y : ℕ) → slice_get xs k ≡ Some y → Has xs y
Has-at [] k y e = absurd (none-some y e)
Has-at (x ∷ xs) zero y e = Has-head x xs y (same_Some x y e)
Has-at (x ∷ xs) (suc k) y e = Has-tail x xs y (Has-at xs k y e)

pub all_from : (P : ℕ → Type 0) (xs : List ℕ) → ((i : ℕ) → Has xs i → P i) → AllByRecursion P xs
all_from P [] h = tt
all_from P (x ∷ xs) h = (h x (Has-head x xs x refl), all_from P xs (λ i t. h i (Has-tail x xs i t)))

below_first : (x : ℕ) (ys : List ℕ) → ((k : ℕ) → Has ys k → x < k) → IsBelowFirst x ys
below_first x [] h = tt
below_first x (y ∷ ys) h = h y (Has-head y ys y refl)

-- Where a number stands.

pub count_within : (i : ℕ) (xs : List ℕ) → count_below i xs ≤ length xs
count_within i [] = omega arith
count_within i (x ∷ xs) =
    let rest = count_within i xs in
    elim (nat_lt x i) as (λ b. cond b (suc (count_below i xs)) 0 ≤ suc (length xs)) [ true ↦ omega (arith, rest) | false ↦ omega arith ]

-- all before a lesser one are lesser too
pub count_after : (i : ℕ) (xs : List ℕ) (k y : ℕ) → IsRising xs → slice_get xs k ≡ Some y → y < i → k < count_below i xs
count_after i [] k y o e h = absurd (none-some y e)
count_after i (x ∷ xs) zero y o e h =
    let here : nat_lt x i ≡ true = lt-ltb x i (subst (λ z. z < i) (sym (same_Some x y e)) h) in
    subst (λ b. 0 < cond b (suc (count_below i xs)) 0) (sym here) (omega arith)
count_after i (x ∷ xs) (suc k) y o e h =
    let first : x < y = first_below x xs o y (Has-at xs k y e) in
    let here : nat_lt x i ≡ true = lt-ltb x i (omega (arith, first, h)) in
    let rest = count_after i xs k y o.1 e h in
    subst (λ b. suc k < cond b (suc (count_below i xs)) 0) (sym here) (omega (arith, rest))

pub count_upto : (i : ℕ) (xs : List ℕ) (k y : ℕ) → slice_get xs k ≡ Some y → i ≤ y → count_below i xs ≤ k
count_upto i [] k y e h = absurd (none-some y e)
count_upto i (x ∷ xs) zero y e h =
    let here : nat_lt x i ≡ false = le-ltb x i (subst (λ z. i ≤ z) (sym (same_Some x y e)) h) in
    subst (λ b. cond b (suc (count_below i xs)) 0 ≤ 0) (sym here) (omega arith)
count_upto i (x ∷ xs) (suc k) y e h =
    let rest = count_upto i xs k y e h in
    elim (nat_lt x i) as (λ b. cond b (suc (count_below i xs)) 0 ≤ suc k) [ true ↦ omega (arith, rest) | false ↦ omega arith ]

-- of a rising list, a member has fewer before it than there are
pub count_member : (i : ℕ) (xs : List ℕ) → IsRising xs → Has xs i → count_below i xs < length xs
count_member i [] o has = absurd (Has-empty i has)
count_member i (x ∷ xs) o has =
    elim (Has-cons_cases x xs i has) [
      | inl same ↦
          let here : nat_lt x i ≡ false = le-ltb x i (omega (arith, same)) in
          subst (λ b. cond b (suc (count_below i xs)) 0 < suc (length xs)) (sym here) (omega arith)
      | inr t ↦
          let rest = count_member i xs o.1 t in
          elim (nat_lt x i) as (λ b. cond b (suc (count_below i xs)) 0 < suc (length xs)) [ true ↦ omega (arith, rest) | false ↦ omega arith ]
    ]

-- A number more.

pub insert-at_count : (i : ℕ) (xs : List ℕ) → insert xs (count_below i xs) i ≡ with_instance i xs
insert-at_count i [] = refl
insert-at_count i (x ∷ xs) =
    elim (nat_lt x i) as (λ b. insert (x ∷ xs) (cond b (suc (count_below i xs)) 0) i ≡ cond b (x ∷ with_instance i xs) (i ∷ x ∷ xs)) [
      | true ↦ ap (λ (ys : List ℕ). x ∷ ys) (insert-at_count i xs)
      | false ↦ refl
    ]

pub with-cases : (i : ℕ) (xs : List ℕ) (j : ℕ) → Has (with_instance i xs) j → (i ≡ j) ⊎ Has xs j
with-cases i [] j has = Has-cons_cases i [] j has
with-cases i (x ∷ xs) j has = go (nat_lt x i) (with-cases i xs j) has
  where
    later : (i ≡ j) ⊎ Has xs j → (i ≡ j) ⊎ Has (x ∷ xs) j
    later (inl e) = inl e
    later (inr t) = inr (Has-tail x xs j t)

    go : (b : Bool) → (Has (with_instance i xs) j → (i ≡ j) ⊎ Has xs j) → Has (cond b (x ∷ with_instance i xs) (i ∷ x ∷ xs)) j → (i ≡ j) ⊎ Has (x ∷ xs) j
    go true rest h = elim (Has-cons_cases x (with_instance i xs) j h) [ inl e ↦ inr (Has-head x xs j e) | inr t ↦ later (rest t) ]
    go false rest h = Has-cons_cases i (x ∷ xs) j h

pub with-Has : (i : ℕ) (xs : List ℕ) (j : ℕ) → (i ≡ j) ⊎ Has xs j → Has (with_instance i xs) j
with-Has i [] j (inl e) = Has-head i [] j e
with-Has i [] j (inr t) = absurd (Has-empty j t)
with-Has i (x ∷ xs) j h = go (nat_lt x i) (with-Has i xs j) h
  where
    go : (b : Bool) → ((i ≡ j) ⊎ Has xs j → Has (with_instance i xs) j) → (i ≡ j) ⊎ Has (x ∷ xs) j → Has (cond b (x ∷ with_instance i xs) (i ∷ x ∷ xs)) j
    go true rest (inl e) = Has-tail x (with_instance i xs) j (rest (inl e))
    go true rest (inr t) = elim (Has-cons_cases x xs j t) [ inl e ↦ Has-head x (with_instance i xs) j e | inr u ↦ Has-tail x (with_instance i xs) j (rest (inr u)) ]
    go false rest (inl e) = Has-head i (x ∷ xs) j e
    go false rest (inr t) = Has-tail i (x ∷ xs) j t

pub rising-with : (i : ℕ) (xs : List ℕ) → IsRising xs → ¬ (Has xs i) → IsRising (with_instance i xs)
rising-with i [] o none = (tt, tt)
rising-with i (x ∷ xs) o none = go (nat_lt x i) refl (rising-with i xs o.1 (λ t. none (Has-tail x xs i t)))
  where
    above : x < i → (k : ℕ) → (i ≡ k) ⊎ Has xs k → x < k
    above low k (inl e) = omega (arith, low, e)
    above low k (inr t) = first_below x xs o k t

    go : (b : Bool) → nat_lt x i ≡ b → IsRising (with_instance i xs) → IsRising (cond b (x ∷ with_instance i xs) (i ∷ x ∷ xs))
    go true e rest = (below_first x (with_instance i xs) (λ k t. above (ltb-true x i e) k (with-cases i xs k t)), rest)
    go false e rest =
        let least = ltb-false x i e in
        let apart : x ≢ i = λ same. none (Has-head x xs i same) in
        (omega (arith, least, apart), o)

-- a member stands behind those that are less
pub at_count : (i : ℕ) (xs : List ℕ) → IsRising xs → Has xs i → slice_get xs (count_below i xs) ≡ Some i
at_count i [] o has = absurd (Has-empty i has)
at_count i (x ∷ xs) o has =
    elim (Has-cons_cases x xs i has) [
      | inl same ↦
          let here : nat_lt x i ≡ false = le-ltb x i (omega (arith, same)) in
          ap (λ b. slice_get (x ∷ xs) (cond b (suc (count_below i xs)) 0)) here ∙ ap Some same
      | inr t ↦
          let here : nat_lt x i ≡ true = lt-ltb x i (first_below x xs o i t) in
          ap (λ b. slice_get (x ∷ xs) (cond b (suc (count_below i xs)) 0)) here ∙ at_count i xs o.1 t
    ]

-- with one member more, the union
pub union_there : (i : ℕ) (xs : List ℕ) → IsRising xs → Has xs i → xs ≡ union xs (i ∷ [])
union_there i xs o has =
    same_members xs (union xs (i ∷ [])) o (IsRising-union xs (i ∷ []) o (tt, tt))
    (λ q h. Has-union xs (i ∷ []) q (inl h))
    (λ q h. elim (union-cases xs (i ∷ []) q h) [ inl a ↦ a | inr b ↦ subst (Has xs) (has_single i q b) has ])

pub union_new : (i : ℕ) (xs : List ℕ) → IsRising xs → ¬ (Has xs i) → with_instance i xs ≡ union xs (i ∷ [])
union_new i xs o none =
    same_members (with_instance i xs) (union xs (i ∷ [])) (rising-with i xs o none) (IsRising-union xs (i ∷ []) o (tt, tt))
    (λ q h. Has-union xs (i ∷ []) q (elim (with-cases i xs q h) [ inl same ↦ inr (Has-head i [] q same) | inr t ↦ inl t ]))
    (λ q h. with-Has i xs q (elim (union-cases xs (i ∷ []) q h) [ inl a ↦ inr a | inr b ↦ inl (has_single i q b) ]))

-- A number less.

pub remove-at_count : (i : ℕ) (xs : List ℕ) → IsRising xs → Has xs i → remove xs (count_below i xs) ≡ without i xs
remove-at_count i [] o has = absurd (Has-empty i has)
remove-at_count i (x ∷ xs) o has = go (x == i) refl (Has-cons_cases x xs i has) (remove-at_count i xs o.1)
  where
    go : (b : Bool) → (x == i) ≡ b → (x ≡ i) ⊎ Has xs i → (Has xs i → remove xs (count_below i xs) ≡ without i xs)
        → remove (x ∷ xs) (count_below i (x ∷ xs)) ≡ cond b xs (x ∷ without i xs)
    go true e h rest =
        let same : x ≡ i = eqb-true x i e in
        let here : nat_lt x i ≡ false = le-ltb x i (omega (arith, same)) in
        ap (λ b. remove (x ∷ xs) (cond b (suc (count_below i xs)) 0)) here
    go false e (inl same) rest = absurd (true≢false (sym (eq-eqb x i same) ∙ e))
    go false e (inr t) rest =
        let here : nat_lt x i ≡ true = lt-ltb x i (first_below x xs o i t) in
        ap (λ b. remove (x ∷ xs) (cond b (suc (count_below i xs)) 0)) here ∙ ap (λ (ys : List ℕ). x ∷ ys) (rest t)

pub Has-without : (i : ℕ) (xs : List ℕ) (j : ℕ) → Has (without i xs) j → Has xs j
Has-without i [] j has = has
Has-without i (x ∷ xs) j has = go (x == i) (Has-without i xs j) has
  where
    go : (b : Bool) → (Has (without i xs) j → Has xs j) → Has (cond b xs (x ∷ without i xs)) j → Has (x ∷ xs) j
    go true rest h = Has-tail x xs j h
    go false rest h = elim (Has-cons_cases x (without i xs) j h) [ inl e ↦ Has-head x xs j e | inr t ↦ Has-tail x xs j (rest t) ]

pub without-Has : (i : ℕ) (xs : List ℕ) (j : ℕ) → Has xs j → j ≢ i → Has (without i xs) j
without-Has i [] j has apart = has
without-Has i (x ∷ xs) j has apart = go (x == i) refl (λ t. without-Has i xs j t apart) (Has-cons_cases x xs j has)
  where
    go : (b : Bool) → (x == i) ≡ b → (Has xs j → Has (without i xs) j) → (x ≡ j) ⊎ Has xs j → Has (cond b xs (x ∷ without i xs)) j
    go true e rest (inl same) = absurd (apart (sym same ∙ eqb-true x i e))
    go true e rest (inr t) = t
    go false e rest (inl same) = Has-head x (without i xs) j same
    go false e rest (inr t) = Has-tail x (without i xs) j (rest t)

-- it is gone
pub without-gone : (i : ℕ) (xs : List ℕ) → IsRising xs → ¬ (Has (without i xs) i)
without-gone i [] o has = absurd (Has-empty i has)
without-gone i (x ∷ xs) o has = go (x == i) refl (without-gone i xs o.1) has
  where
    go : (b : Bool) → (x == i) ≡ b → ¬ (Has (without i xs) i) → Has (cond b xs (x ∷ without i xs)) i → ⊥
    go true e rest h =
        let same = eqb-true x i e in
        let low = first_below x xs o i h in
        absurd (omega (arith, same, low))
    go false e rest h = elim (Has-cons_cases x (without i xs) i h) [ inl same ↦ absurd (true≢false (sym (eq-eqb x i same) ∙ e)) | inr t ↦ rest t ]

pub rising-without : (i : ℕ) (xs : List ℕ) → IsRising xs → IsRising (without i xs)
rising-without i [] o = tt
rising-without i (x ∷ xs) o =
    elim (x == i) as (λ b. IsRising (cond b xs (x ∷ without i xs))) [
      | true ↦ o.1
      | false ↦ (below_first x (without i xs) (λ k t. first_below x xs o k (Has-without i xs k t)), rising-without i xs o.1)
    ]
