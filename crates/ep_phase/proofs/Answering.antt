-- Counts over the answers with one more.
use Rattle.std.proofs.Common.{◌≡◌, ◌∙◌, ℕ, zero, suc, ◌+◌, Bool, true, false, ◌&&◌, ◌||◌, not, cond, eqb, Option, Some, is_some, ap, refl}
use Rattle.ep_base.specs.Quorums.{size, is_fast}
use Rattle.ep_base.specs.declared.attrs.Attrs.{Attrs}
use Rattle.ep_rules.specs.Answers.{Answers, answer, with_answer}
use Rattle.ep_rules.specs.Counting.{count, every, is_other}
use Rattle.ep_rules.specs.Phases.{others, fast_answered}

some_of : {X : Type 0} (x : X) (o : Option X) (b : Bool) → (b || is_some o) ≡ is_some (cond b (Some x) o)
some_of x o true = refl
some_of x o false = refl

-- r answered, where q does now
pub answered_with : {X : Type 0} (answers : Answers X) (q : ℕ) (x : X) (r : ℕ) → (eqb q r || is_some (answer answers r)) ≡ is_some (answer (with_answer answers q x) r)
answered_with answers q x r = some_of x (answer answers r) (eqb q r)

count_same : (n : ℕ) (p s : ℕ → Bool) → ((r : ℕ) → p r ≡ s r) → count n p ≡ count n s
count_same zero p s h = refl
count_same (suc n) p s h = ap (λ b. cond b 1 0 + count n p) (h n) ∙ ap (λ k. cond (s n) 1 0 + k) (count_same n p s h)

every_same : (n : ℕ) (p s : ℕ → Bool) → ((r : ℕ) → p r ≡ s r) → every n p ≡ every n s
every_same zero p s h = refl
every_same (suc n) p s h = ap (λ b. b && every n p) (h n) ∙ ap (λ k. s n && k) (every_same n p s h)

pub others_more : {X : Type 0} (f me q : ℕ) (answers : Answers X) (x : X)
    → count (size f) (λ r. is_other me r && (eqb q r || is_some (answer answers r))) ≡ others f me (with_answer answers q x)
others_more f me q answers x =
    count_same (size f) (λ r. is_other me r && (eqb q r || is_some (answer answers r))) (λ r. is_other me r && is_some (answer (with_answer answers q x) r))
    (λ r. ap (λ b. is_other me r && b) (answered_with answers q x r))

pub fast_more : (f l s q : ℕ) (answers : Answers Attrs) (a : Attrs)
    → every (size f) (λ r. not (is_fast l s r) || (eqb q r || is_some (answer answers r))) ≡ fast_answered f l s (with_answer answers q a)
fast_more f l s q answers a =
    every_same (size f) (λ r. not (is_fast l s r) || (eqb q r || is_some (answer answers r))) (λ r. not (is_fast l s r) || is_some (answer (with_answer answers q a) r))
    (λ r. ap (λ b. not (is_fast l s r) || b) (answered_with answers q a r))
