-- The least instance of a list so far.
use Rattle.std.proofs.Common.{◌≡◌, ℕ, ◌+◌, ◌<◌, ◌⊎◌, inl, inr, List, [], ◌∷◌, ◌++◌, length, get_or, take, Option, Some, None, sym, subst, arith}
use Rattle.std.proofs.lemmas.Bool.{cases_order}
use Rattle.std.proofs.lemmas.List.{take_more}
use Rattle.ep_exec.specs.Found.{IsLeast, IsLesser}
use Rattle.ep_rules.proofs.Places.{has_left, has_right, has_split, has_single}
use Rattle.ep_exec.proofs.Counts.{single_has}

below_trans : (i j k : ℕ) → i < j → j < k → i < k
below_trans i j k a b = omega arith

below_self : (i : ℕ) → i < i → ⊥
below_self i h = omega arith

below_or : (i j : ℕ) → (i < j) ⊎ ((i ≡ j) ⊎ (j < i))
below_or i j = elim (cases_order i j) [ inl e ↦ inr (inl e) | inr (inl l) ↦ inl l | inr (inr l) ↦ inr (inr l) ]

-- one more, of which it doesn't hold
pub least_skip : (P : ℕ → Type 0) (xs : List ℕ) (x : ℕ) (best : Option ℕ) → IsLeast P xs best → ¬ P x → IsLeast P (xs ++ x ∷ []) best
least_skip P xs x None h n = λ j k p. elim (has_split xs (x ∷ []) j k) [ inl a ↦ h j a p | inr a ↦ n (subst P (sym (has_single x j a)) p) ]
least_skip P xs x (Some b) h n = (has_left xs (x ∷ []) b h.0, h.1, λ j k p. elim (has_split xs (x ∷ []) j k) [ inl a ↦ h.2 j a p | inr a ↦ absurd (n (subst P (sym (has_single x j a)) p)) ])

-- one more, of which it holds
pub least_take : (P : ℕ → Type 0) (xs : List ℕ) (x : ℕ) (best : Option ℕ) (i : ℕ) → IsLeast P xs best → P x → IsLesser best x i → IsLeast P (xs ++ x ∷ []) (Some i)
least_take P xs x None i h p e = subst (λ y. IsLeast P (xs ++ x ∷ []) (Some y)) (sym e)
    (has_right xs (x ∷ []) x (single_has x), p, λ j k q. elim (has_split xs (x ∷ []) j k) [ inl a ↦ absurd (h j a q) | inr a ↦ subst (λ y. ¬ (y < x)) (has_single x j a) (below_self x) ])
least_take P xs x (Some b) i h p (inl e) = subst (λ y. IsLeast P (xs ++ x ∷ []) (Some y)) (sym e.0)
    (has_left xs (x ∷ []) b h.0, h.1, λ j k q. elim (has_split xs (x ∷ []) j k) [ inl a ↦ h.2 j a q | inr a ↦ subst (λ y. ¬ (y < b)) (has_single x j a) (λ r. below_self x (below_trans x b x r e.1)) ])
least_take P xs x (Some b) i h p (inr e) = subst (λ y. IsLeast P (xs ++ x ∷ []) (Some y)) (sym e.0)
    (has_right xs (x ∷ []) x (single_has x), p, λ j k q. elim (has_split xs (x ∷ []) j k) [ inl a ↦ (λ r. not_less j (h.2 j a q) r) | inr a ↦ subst (λ y. ¬ (y < x)) (has_single x j a) (below_self x) ])
  where
    -- j is not below b, and b is not below x
    not_less : (j : ℕ) → ¬ (j < b) → (j < x) → ⊥
    not_less j n r = elim (below_or j b) [ inl k ↦ n k | inr (inl k) ↦ e.1 (subst (λ y. (y < x)) k r) | inr (inr k) ↦ e.1 (below_trans b j x k r) ]

-- the same at a loop's next element
pub least_skip_at : (P : ℕ → Type 0) (xs : List ℕ) (n : ℕ) (d : ℕ) (best : Option ℕ) → n < length xs → IsLeast P (take n xs) best → ¬ P (get_or xs n d) → IsLeast P (take (n + 1) xs) best
least_skip_at P xs n d best lt h not = rw (take_more xs n d lt) (least_skip P (take n xs) (get_or xs n d) best h not)

pub least_take_at : (P : ℕ → Type 0) (xs : List ℕ) (n : ℕ) (d : ℕ) (best : Option ℕ) (i : ℕ) → n < length xs → IsLeast P (take n xs) best → P (get_or xs n d) → IsLesser best (get_or xs n d) i → IsLeast P (take (n + 1) xs) (Some i)
least_take_at P xs n d best i lt h p e = rw (take_more xs n d lt) (least_take P (take n xs) (get_or xs n d) best i h p e)
