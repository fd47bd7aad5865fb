-- Counting replicas: a test that passes at more than half of them passes wherever another such test does, once at least.
use Rattle.std.proofs.Common.{◌≡◌, ℕ, zero, suc, ◌+◌, ◌<◌, ◌≤◌, Bool, true, false, cond, ◌&&◌, not, eqb, Option, Some, None, ◌⊎◌, inl, inr, refl, sym, ap, subst, ◌∙◌, arith}
use Rattle.std.proofs.lemmas.Bool.{and_parts, and_from, not_from_false, eqb-true, ne_eqb}
use Rattle.ep_rules.specs.Counting.{count, every, least, or_this}

below_suc : (n r : ℕ) → r < suc n → (r ≡ n) ⊎ (r < n)
below_suc n r h = grind arith

-- a test that passes wherever another does passes as often
count_le_step : (n : ℕ) (p q : ℕ → Bool) (a b : Bool) → (a ≡ true → b ≡ true) → count n p ≤ count n q → cond a 1 0 + count n p ≤ cond b 1 0 + count n q
count_le_step n p q true true i ih = omega arith
count_le_step n p q true false i ih = absurd (let e = i refl in cc)
count_le_step n p q false true i ih = omega arith
count_le_step n p q false false i ih = omega arith

pub count_le : (n : ℕ) (p q : ℕ → Bool) → ((r : ℕ) → r < n → p r ≡ true → q r ≡ true) → count n p ≤ count n q
count_le zero p q h = omega arith
count_le (suc n) p q h = count_le_step n p q (p n) (q n) (h n (omega arith)) (count_le n p q (λ r l. h r (omega arith)))

-- where two tests pass more often together than there are replicas, one passes both
abbrev pub Shared : ℕ → (ℕ → Bool) → (ℕ → Bool) → Type 0
Shared n p q = (r : ℕ) × (r < n) × (p r ≡ true) × (q r ≡ true)

shared_up : (n : ℕ) (p q : ℕ → Bool) → Shared n p q → Shared (suc n) p q
shared_up n p q t = (t.0, omega (arith, t.1), t.2, t.3)

meet_step : (n : ℕ) (p q : ℕ → Bool) (a b : Bool) → p n ≡ a → q n ≡ b → (n < count n p + count n q → Shared n p q) → suc n < (cond a 1 0 + count n p) + (cond b 1 0 + count n q) → Shared (suc n) p q
meet_step n p q true true ea eb rec h = (n, omega arith, ea, eb)
meet_step n p q true false ea eb rec h = shared_up n p q (rec (omega arith))
meet_step n p q false true ea eb rec h = shared_up n p q (rec (omega arith))
meet_step n p q false false ea eb rec h = shared_up n p q (rec (omega arith))

pub meet : (n : ℕ) (p q : ℕ → Bool) → n < count n p + count n q → Shared n p q
meet zero p q h = absurd (omega arith)
meet (suc n) p q h = meet_step n p q (p n) (q n) refl refl (meet n p q) h

drop_one : (n z : ℕ) (p : ℕ → Bool) → z ≡ n → count n p ≤ count n (λ r. p r && not (eqb r z))
drop_one n z p e = count_le n p _ (λ r l h. and_from _ _ h (not_from_false _ (ne_eqb r z (λ i. omega arith))))

without_step : (n z : ℕ) (p : ℕ → Bool) (a b : Bool) → eqb n z ≡ b → (z ≡ n → count n p ≤ count n (λ r. p r && not (eqb r z))) → count n p ≤ count n (λ r. p r && not (eqb r z)) + 1 →
    cond a 1 0 + count n p ≤ cond (a && not b) 1 0 + count n (λ r. p r && not (eqb r z)) + 1
without_step n z p true true e same rec = let s = same (sym (eqb-true n z e)) in omega arith
without_step n z p true false e same rec = omega arith
without_step n z p false b e same rec = omega arith

pub count_without : (n : ℕ) (p : ℕ → Bool) (z : ℕ) → count n p ≤ count n (λ r. p r && not (eqb r z)) + 1
count_without zero p z = omega arith
count_without (suc n) p z = without_step n z p (p n) (eqb n z) refl (drop_one n z p) (count_without n p z)

-- the least that passes does pass, and where there is none none passes
abbrev pub FoundAt : (n : ℕ) (p : ℕ → Bool) (k : ℕ) → Type 0
FoundAt n p k = (k < n) × (p k ≡ true)

least_some_step : (n : ℕ) (p : ℕ → Bool) (k : ℕ) (o : Option ℕ) (b : Bool) → least n p ≡ o → p n ≡ b → or_this n b o ≡ Some k → (least n p ≡ Some k → FoundAt n p k) → FoundAt (suc n) p k
least_some_step n p k (Some j) b eo eb e rec = let t : FoundAt n p k = rec (eo ∙ e) in (omega (arith, t.0), t.1)
least_some_step n p k None true eo eb e rec = let is : n ≡ k = cc in (omega arith, subst (λ v. p v ≡ true) is eb)
least_some_step n p k None false eo eb e rec = absurd (cc)

pub least_some : (n : ℕ) (p : ℕ → Bool) (k : ℕ) → least n p ≡ Some k → FoundAt n p k
least_some zero p k e = absurd (cc)
least_some (suc n) p k e = least_some_step n p k (least n p) (p n) refl refl e (least_some n p k)

least_none_step : (n : ℕ) (p : ℕ → Bool) (r : ℕ) → r < suc n → (o : Option ℕ) (b : Bool) → least n p ≡ o → p n ≡ b → or_this n b o ≡ None → (least n p ≡ None → r < n → p r ≡ false) → p r ≡ false
least_none_step n p r h (Some j) b eo eb e rec = absurd (cc)
least_none_step n p r h None true eo eb e rec = absurd (cc)
least_none_step n p r h None false eo eb e rec = elim (below_suc n r h) [ inl i ↦ subst (λ v. p v ≡ false) (sym i) eb | inr l ↦ rec eo l ]

pub least_none : (n : ℕ) (p : ℕ → Bool) → least n p ≡ None → (r : ℕ) → r < n → p r ≡ false
least_none zero p e r h = absurd (omega arith)
least_none (suc n) p e r h = least_none_step n p r h (least n p) (p n) refl refl e (λ e l. least_none n p e r l)

pub every_true : (n : ℕ) (p : ℕ → Bool) → every n p ≡ true → (r : ℕ) → r < n → p r ≡ true
every_true zero p e r h = absurd (omega arith)
every_true (suc n) p e r h = let t = and_parts (p n) (every n p) e in elim (below_suc n r h) [ inl i ↦ subst (λ v. p v ≡ true) (sym i) t.0 | inr l ↦ every_true n p t.1 r l ]

-- where something passes, one that passes is found
some_step : (n : ℕ) (p : ℕ → Bool) (b : Bool) → p n ≡ b → 0 < cond b 1 0 + count n p → (0 < count n p → (r : ℕ) × (r < n) × (p r ≡ true)) → (r : ℕ) × (r < suc n) × (p r ≡ true)
some_step n p true e h rec = (n, omega arith, e)
some_step n p false e h rec = let t = rec (omega arith) in (t.0, omega (arith, t.1), t.2)

pub count_some : (n : ℕ) (p : ℕ → Bool) → 0 < count n p → (r : ℕ) × (r < n) × (p r ≡ true)
count_some zero p h = absurd (omega arith)
count_some (suc n) p h = some_step n p (p n) refl h (count_some n p)

-- a replica that the one test leaves out and the other takes in
more_step : (n r : ℕ) (p q : ℕ → Bool) (a b : Bool) → p n ≡ a → q n ≡ b → (a ≡ true → b ≡ true) → (r ≡ n) ⊎ (r < n) → p r ≡ false → q r ≡ true → count n p ≤ count n q → (r < n → count n p + 1 ≤ count n q) → cond a 1 0 + count n p + 1 ≤ cond b 1 0 + count n q
more_step n r p q true b ea eb i (inl e) lacks there le rec = absurd (let t = ap p e in cc)
more_step n r p q false true ea eb i (inl e) lacks there le rec = omega arith
more_step n r p q false false ea eb i (inl e) lacks there le rec = absurd (let t = ap q e in cc)
more_step n r p q true true ea eb i (inr lt) lacks there le rec = let t = rec lt in omega arith
more_step n r p q true false ea eb i (inr lt) lacks there le rec = absurd (let t = i refl in cc)
more_step n r p q false true ea eb i (inr lt) lacks there le rec = let t = rec lt in omega arith
more_step n r p q false false ea eb i (inr lt) lacks there le rec = let t = rec lt in omega arith

pub count_more : (n r : ℕ) (p q : ℕ → Bool) → r < n → p r ≡ false → q r ≡ true → ((k : ℕ) → k < n → p k ≡ true → q k ≡ true) → count n p + 1 ≤ count n q
count_more zero r p q lt lacks there h = absurd (omega arith)
count_more (suc n) r p q lt lacks there h = more_step n r p q (p n) (q n) refl refl (h n (omega arith)) (below_suc n r lt) lacks there (count_le n p q (λ k l. h k (omega arith))) (λ l. count_more n r p q l lacks there (λ k m. h k (omega arith)))

pub count_all : (n : ℕ) → count n (λ k. true) ≡ n
count_all zero = refl
count_all (suc n) = let ih = count_all n in omega arith

-- none below the least one passes
least_before_step : (n : ℕ) (p : ℕ → Bool) (k r : ℕ) → r < k → (o : Option ℕ) (b : Bool) → least n p ≡ o → p n ≡ b → or_this n b o ≡ Some k → (least n p ≡ Some k → p r ≡ false) → p r ≡ false
least_before_step n p k r low (Some j) b eo eb e rec = rec (eo ∙ e)
least_before_step n p k r low None true eo eb e rec = let is : n ≡ k = cc in least_none n p eo r (omega arith)
least_before_step n p k r low None false eo eb e rec = absurd (cc)

pub least_before : (n : ℕ) (p : ℕ → Bool) (k : ℕ) → least n p ≡ Some k → (r : ℕ) → r < k → p r ≡ false
least_before zero p k e r low = absurd (cc)
least_before (suc n) p k e r low = least_before_step n p k r low (least n p) (p n) refl refl e (λ e. least_before n p k e r low)
