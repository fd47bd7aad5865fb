-- Counts of replicas: one more that passes, and how far a count goes.
use Rattle.std.proofs.Common.{◌≡◌, ◌≢◌, ℕ, zero, suc, ◌+◌, ◌<◌, ◌≤◌, Bool, true, false, cond, ◌&&◌, leb, Some, None, is_some, [], ◌⊎◌, inl, inr, refl, sym, ap, subst, ◌∙◌, arith}
use Rattle.std.proofs.lemmas.Bool.{and_right, and_from, eq-eqb, ne_eqb, not_from_false, leb-true, leb-false}
use Rattle.ep_base.specs.Quorums.{size}
use Rattle.ep_rules.specs.Answers.{Answers, answer, with_answer}
use Rattle.ep_rules.specs.Counting.{count, is_other}
use Rattle.ep_rules.specs.Phases.{others}
use Rattle.ep_rules.specs.Recovery.{answered_all}

below_suc : (n r : ℕ) → r < suc n → (r ≡ n) ⊎ (r < n)
below_suc n r h = grind arith

count_same : (n : ℕ) (p q : ℕ → Bool) → ((k : ℕ) → k < n → q k ≡ p k) → count n q ≡ count n p
count_same zero p q h = refl
count_same (suc n) p q h =
    let e : q n ≡ p n = h n (omega arith) in
    let ih : count n q ≡ count n p = count_same n p q (λ k lt. h k (omega arith)) in
    ap (λ b. cond b 1 0 + count n q) e ∙ ap (λ c. cond (p n) 1 0 + c) ih

one_here : (a b : Bool) (c d : ℕ) → a ≡ true → b ≡ false → c ≡ d → cond a 1 0 + c ≡ cond b 1 0 + d + 1
one_here true true c d ea eb e = absurd (cc)
one_here true false c d ea eb e = omega arith
one_here false b c d ea eb e = absurd (cc)

one_below : (a b : Bool) (c d : ℕ) → a ≡ b → c ≡ d + 1 → cond a 1 0 + c ≡ cond b 1 0 + d + 1
one_below true true c d e h = omega arith
one_below true false c d e h = absurd (cc)
one_below false true c d e h = absurd (cc)
one_below false false c d e h = omega arith

-- x alone is new
pub count_one : (n x : ℕ) (p q : ℕ → Bool) → x < n → p x ≡ false → q x ≡ true → ((k : ℕ) → k ≢ x → q k ≡ p k) → count n q ≡ count n p + 1
count_one zero x p q lt lacks has same = absurd (omega arith)
count_one (suc n) x p q lt lacks has same = elim (below_suc n x lt) [
  | inl is ↦ one_here (q n) (p n) (count n q) (count n p) (subst (λ k. q k ≡ true) is has) (subst (λ k. p k ≡ false) is lacks) (count_same n p q (λ k l. same k (λ e. absurd (omega arith))))
  | inr less ↦ one_below (q n) (p n) (count n q) (count n p) (same n (λ e. absurd (omega arith))) (count_one n x p q less lacks has same)
]

pub count_none : (n : ℕ) → count n (λ k. false) ≡ 0
count_none zero = refl
count_none (suc n) = let ih = count_none n in omega arith

pub count_has : (n x : ℕ) (p : ℕ → Bool) → x < n → p x ≡ true → 1 ≤ count n p
count_has zero x p lt e = absurd (omega arith)
count_has (suc n) x p lt e = elim (below_suc n x lt) [
  | inl is ↦ (let h : count (suc n) p ≡ 1 + count n p = ap (λ b. cond b 1 0 + count n p) (subst (λ k. p k ≡ true) is e) in omega arith)
  | inr less ↦ (let ih = count_has n x p less e in omega arith)
]

-- a count that reaches k is k somewhere
pub record Reached (n k : ℕ) (p : ℕ → Bool) : Type 0 where
  pub bound : ℕ
  pub low : bound ≤ n
  pub many : count bound p ≡ k

reached_here : (n k : ℕ) (p : ℕ → Bool) (b : Bool) → p n ≡ b → k ≤ cond b 1 0 + count n p → count n p < k → cond (p n) 1 0 + count n p ≡ k
reached_here n k p true e h lt = ap (λ t. cond t 1 0 + count n p) e ∙ (let i : 1 + count n p ≡ k = omega arith in i)
reached_here n k p false e h lt = absurd (omega arith)

pub reached : (n k : ℕ) (p : ℕ → Bool) → k ≤ count n p → Reached n k p
reached zero k p h = record { bound = 0; low = (omega arith); many = (omega arith) }
reached (suc n) k p h = go (leb k (count n p)) refl (reached n k p)
  where
    go : (b : Bool) → leb k (count n p) ≡ b → (k ≤ count n p → Reached n k p) → Reached (suc n) k p
    go true e rec = let t = rec (leb-true k (count n p) e) in let low = t.low in record { bound = t.bound; low = (omega arith); many = t.many }
    go false e rec = let lt = leb-false k (count n p) e in record { bound = suc n; low = (omega arith); many = reached_here n k p (p n) refl h (omega arith) }

pub count_here : (n : ℕ) (p : ℕ → Bool) → p n ≡ true → count (suc n) p ≡ 1 + count n p
count_here n p e = ap (λ b. cond b 1 0 + count n p) e

pub count_skip : (n : ℕ) (p : ℕ → Bool) → p n ≡ false → count (suc n) p ≡ count n p
count_skip n p e = ap (λ b. cond b 1 0 + count n p) e ∙ (let i : 0 + count n p ≡ count n p = omega arith in i)

-- Answers.

module _ {X : Type 0} (answers : Answers X) (x : ℕ) (v : X) where
  pub answer_here : answer (with_answer answers x v) x ≡ Some v
  answer_here = ap (λ b. cond b (Some v) (answer answers x)) (eq-eqb x x refl)

  pub answer_there : (k : ℕ) → x ≢ k → answer (with_answer answers x v) k ≡ answer answers k
  answer_there k ne = ap (λ b. cond b (Some v) (answer answers k)) (ne_eqb x k ne)

  pub all_more : (f : ℕ) → x < size f → answer answers x ≡ None → answered_all f (with_answer answers x v) ≡ answered_all f answers + 1
  all_more f lt fresh =
      count_one (size f) x (λ r. is_some (answer answers r)) (λ r. is_some (answer (with_answer answers x v) r)) lt (ap is_some fresh) (ap is_some answer_here)
      (λ k ne. ap is_some (answer_there k (λ e. ne (sym e))))

  pub others_more : (f q : ℕ) → x < size f → x ≢ q → answer answers x ≡ None → others f q (with_answer answers x v) ≡ others f q answers + 1
  others_more f q lt other fresh =
      count_one (size f) x (λ r. is_other q r && is_some (answer answers r)) (λ r. is_other q r && is_some (answer (with_answer answers x v) r)) lt
      (and_right (is_other q x) _ (ap is_some fresh)) (and_from _ _ (not_from_false _ (ne_eqb x q other)) (ap is_some answer_here))
      (λ k ne. ap (λ o. is_other q k && is_some o) (answer_there k (λ e. ne (sym e))))

pub no_others : (X : Type 0) (f q : ℕ) → others {X = X} f q [] ≡ 0
no_others X f q = count_same (size f) (λ k. false) (λ r. is_other q r && is_some (answer {X = X} [] r)) (λ k lt. and_right (is_other q k) false refl) ∙ count_none (size f)

-- one replica's own answer
pub own_answer : (f q : ℕ) (X : Type 0) (v : X) → q < size f → answered_all f (with_answer [] q v) ≡ 1
own_answer f q X v lt = let one = all_more {X = X} [] q v f lt refl in let z : answered_all {X = X} f [] ≡ 0 = count_none (size f) in omega arith
