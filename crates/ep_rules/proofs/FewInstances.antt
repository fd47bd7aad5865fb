-- There are at most 63,000 instances: numbers that stand once each, and have different places below a bound, are no more than it.
use Rattle.std.proofs.Common.{◌≡◌, ℕ, zero, suc, ◌+◌, ◌*◌, ◌-◌, ◌<◌, ◌≤◌, inl, inr, Bool, true, false, cond, not, eqb, List, [], ◌∷◌, length, refl, sym, ap, subst, ◌∙◌, arith}
use Rattle.std.proofs.lemmas.Bool.{cases_order, eqb-true, ne_eqb, not_from_false, false≢true}
use Rattle.std.specs.List.{filter}
use Rattle.ep_base.specs.Deps.{most_deps}
use Rattle.ep_base.specs.Instances.{leader_of, number_of, highest_number, IsInstance}
use Rattle.ep_base.specs.Places.{Has}
use Rattle.ep_base.proofs.Places.{Has-first}
use Rattle.ep_rules.specs.Counts.{InstancesAreFew}
use Rattle.ep_rules.proofs.OnceDone.{from_once}
use Rattle.ep_rules.proofs.Places.{has_tail, has_filter, once_filter, filter_all, Once}

module _ (index : ℕ → ℕ) where
  abbrev Apart : List ℕ → Type 0
  Apart xs = (i j : ℕ) → Has xs i → Has xs j → index i ≡ index j → i ≡ j

  abbrev but : ℕ → ℕ → Bool
  but n i = not (eqb (index i) n)

  -- one at most is at n
  one_less : (n : ℕ) (xs : List ℕ) → Once xs → Apart xs → length xs ≤ suc (length (filter (but n) xs))
  one_less n [] o apart = omega arith
  one_less n (x ∷ xs) o apart = go (eqb (index x) n) refl (one_less n xs o.1 (λ i j h k e. apart i j (has_tail x i xs h) (has_tail x j xs k) e))
    where
      go : (b : Bool) → eqb (index x) n ≡ b → length xs ≤ suc (length (filter (but n) xs)) → suc (length xs) ≤ suc (length (cond (not b) (x ∷ filter (but n) xs) (filter (but n) xs)))
      go true e r =
          let here : index x ≡ n = eqb-true (index x) n e in
          let other : (i : ℕ) → Has xs i → but n i ≡ true = λ i h. not_from_false _ (ne_eqb (index i) n (λ is. o.0 (subst (λ j. Has xs j) (apart i x (has_tail x i xs h) (Has-first x xs) (is ∙ sym here)) h))) in
          let all : filter (but n) xs ≡ xs = filter_all (but n) xs other in
          rw all (omega arith)
      go false e r = omega arith

  not_at : (n i : ℕ) → but n i ≡ true → index i ≡ n → ⊥
  not_at n i e is = let t : eqb (index i) n ≡ true = subst (λ k. eqb k n ≡ true) (sym is) (eqb-same n) in absurd (false≢true (sym (ap not t) ∙ e))
    where
      eqb-same : (k : ℕ) → eqb k k ≡ true
      eqb-same k = Rattle.std.proofs.lemmas.Bool.eq-eqb k k refl

  few_below : (n : ℕ) (xs : List ℕ) → Once xs → Apart xs → ((i : ℕ) → Has xs i → index i < n) → length xs ≤ n
  few_below zero [] o apart low = omega arith
  few_below zero (x ∷ xs) o apart low = absurd (omega (arith, low x (Has-first x xs)))
  few_below (suc n) xs o apart low =
      let more = one_less n xs o apart in
      let rest = few_below n (filter (but n) xs) (once_filter (but n) xs o) (λ i j h k e. apart i j (has_filter (but n) xs i h).0 (has_filter (but n) xs j k).0 e) lower in
      omega arith
    where
      lower : (i : ℕ) → Has (filter (but n) xs) i → index i < n
      lower i h = let t = has_filter (but n) xs i h in let lt = low i t.0 in let ne : index i ≡ n → ⊥ = not_at n i t.1 in grind arith

-- instances in order, without gaps, from 0
abbrev index_of : ℕ → ℕ
index_of i = leader_of i * highest_number + (number_of i - 1)

rises : (i j : ℕ) → IsInstance i → IsInstance j → i < j → index_of i < index_of j
rises i j h k low = omega (arith, h, k)

index_below : (i : ℕ) → IsInstance i → index_of i < most_deps
index_below i h = omega (arith, h)

apart : (i j : ℕ) → IsInstance i → IsInstance j → index_of i ≡ index_of j → i ≡ j
apart i j h k e = elim (cases_order i j) [
  | inl is ↦ is
  | inr (inl l) ↦ absurd (omega (arith, rises i j h k l))
  | inr (inr l) ↦ absurd (omega (arith, rises j i k h l))
]

pub few_instances : (is : List ℕ) → Once is → ((i : ℕ) → Has is i → IsInstance i) → length is ≤ most_deps
few_instances is o all = few_below index_of most_deps is o (λ i j h k e. apart i j (all i h) (all j k) e) (λ i h. index_below i (all i h))

-- of those that are numbered up to 2,000 there are fewer
abbrev early_index : ℕ → ℕ
early_index i = leader_of i * 2000 + (number_of i - 1)

early_rises : (i j : ℕ) → IsInstance i → IsInstance j → number_of i ≤ 2000 → number_of j ≤ 2000 → i < j → early_index i < early_index j
early_rises i j h k a b low = omega (arith, h, k, a, b, low)

early_apart : (i j : ℕ) → IsInstance i → IsInstance j → number_of i ≤ 2000 → number_of j ≤ 2000 → early_index i ≡ early_index j → i ≡ j
early_apart i j h k a b e = elim (cases_order i j) [
  | inl is ↦ is
  | inr (inl l) ↦ absurd (omega (arith, e, early_rises i j h k a b l))
  | inr (inr l) ↦ absurd (omega (arith, e, early_rises j i k h b a l))
]

pub few_early : (is : List ℕ) → Once is → ((i : ℕ) → Has is i → IsInstance i × (number_of i ≤ 2000)) → length is ≤ 14000
few_early is o all =
    few_below early_index 14000 is o (λ i j h k e. early_apart i j (all i h).0 (all j k).0 (all i h).1 (all j k).1 e)
    (λ i h. let is_one = (all i h).0 in let low = (all i h).1 in omega (arith, is_one, low))

pub instances_are_few_lem : InstancesAreFew
instances_are_few_lem is once all = few_instances is (from_once is once) all
