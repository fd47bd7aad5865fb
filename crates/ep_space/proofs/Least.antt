-- The least number that passes, and the least one that is free.
use Rattle.std.proofs.Common.{◌≡◌, ℕ, suc, zero, ◌<◌, ◌≤◌, ◌⊎◌, Bool, true, false, ltb, Some, None, sym, ap, ◌∙◌, arith, inl, inr, subst, refl, true≢false}
use Rattle.ep_base.specs.Instances.{highest_number}
use Rattle.ep_rules.specs.Counting.{least, or_this}
use Rattle.ep_rules.specs.Maps.{Map}
use Rattle.ep_rules.specs.States.{is_free, free_number}
use Rattle.ep_rules.specs.declared.record.Record.{Record}
use Rattle.ep_rules.proofs.Counting.{least_some, least_none as none_passes}
use Rattle.std.proofs.lemmas.Bool.{ltb-true, ltb-false}

below_or_at : (k n : ℕ) → k < suc n → (k < n) ⊎ (k ≡ n)
below_or_at k n h = grind arith

-- the first that passes is the least below any bound
pub least_first : (p : ℕ → Bool) (k n : ℕ) → least k p ≡ None → p k ≡ true → k < n → least n p ≡ Some k
least_first p k zero e t h = absurd (omega arith)
least_first p k (suc n) e t h =
    elim (below_or_at k n h) [
      | inl below ↦ ap (or_this n (p n)) (least_first p k n e t below)
      | inr is ↦ subst (λ m. least (suc m) p ≡ Some k) is (ap (or_this k (p k)) e ∙ ap (λ b. or_this k b None) t)
    ]

pub free_first : (m : Map Record) (r k n : ℕ) → least k (is_free m r) ≡ None → is_free m r k ≡ true → k < n → n ≤ highest_number → free_number m r ≡ Some k
unfolding free_number
free_first m r k n e t h most = least_first (is_free m r) k highest_number e t (omega (arith, h, most))

-- the least one that passes isn't below a number below which none does
least_past : (p : ℕ → Bool) (k n i : ℕ) → least k p ≡ None → least n p ≡ Some i → k ≤ i
least_past p k n i e is = go (ltb i k) refl
  where
    go : (b : Bool) → ltb i k ≡ b → k ≤ i
    go true low = absurd (true≢false (sym (least_some n p i is).1 ∙ none_passes k p e i (ltb-true i k low)))
    go false high = ltb-false i k high

pub free_past : (m : Map Record) (r k n i : ℕ) → least k (is_free m r) ≡ None → n ≤ k → free_number m r ≡ Some i → n ≤ i
unfolding free_number
free_past m r k n i e h is = let past = least_past (is_free m r) k highest_number i e is in omega (arith, past, h)

-- where none below passes, there is none
pub least_none : (p : ℕ → Bool) (k : ℕ) → ((n : ℕ) → n < k → p n ≡ false) → least k p ≡ None
least_none p zero h = refl
least_none p (suc k) h = ap (or_this k (p k)) (least_none p k (λ n low. h n (omega (arith, low)))) ∙ ap (λ b. or_this k b None) (h k (omega arith))
