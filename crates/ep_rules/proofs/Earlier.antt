-- The history is in order of first executions.
use Rattle.std.proofs.Common.{◌≡◌, ℕ, ◌<◌, ◌⊎◌, inl, inr, List, [], ◌∷◌, ◌++◌, length, true, false, cond, refl, sym, ap, subst, ◌∙◌, arith, append-nil, append_assoc}
use Rattle.std.specs.List.{filter}
use Rattle.ep_base.specs.Places.{place, Has}
use Rattle.ep_rules.proofs.Places.{has_or, has_left, has_right, has_split, place-append_in, place-append_out, has_filter, filter_has, filter_forth, not_has}
use Rattle.ep_rules.specs.History.{Execution, is_new, merged, IsExecutedIn, EarlierFirst}
use Rattle.ep_rules.proofs.Answered.{merged_keeps, is_real}

merged_both : (h : List ℕ) (xs ys : List Execution) → merged h (xs ++ ys) ≡ merged (merged h xs) ys
merged_both h [] ys = refl
merged_both h (e ∷ xs) ys = merged_both (h ++ filter (is_new h) e.order) xs ys

merged_grows : (h : List ℕ) (es : List Execution) → (more : List ℕ) × (merged h es ≡ h ++ more)
merged_grows h [] = ([], sym (append-nil h))
merged_grows h (e ∷ es) = let r = merged_grows (h ++ filter (is_new h) e.order) es in (filter (is_new h) e.order ++ r.0, r.1 ∙ append_assoc h (filter (is_new h) e.order) r.0)

-- what is new is from the execution, and what is in the execution gets in
new_has : (h xs : List ℕ) (i : ℕ) → Has xs i → Has (h ++ filter (is_new h) xs) i
new_has h xs i k = elim (has_or h i) [
  | inl a ↦ has_left h (filter (is_new h) xs) i a
  | inr n ↦ has_right h (filter (is_new h) xs) i (filter_has (is_new h) xs i (Rattle.std.proofs.lemmas.Bool.le-leb (length h) (place h i) (let e = not_has h i n in omega arith)) k)
]

pub executed_has : (h : List ℕ) (es : List Execution) (i : ℕ) → IsExecutedIn es i → Has (merged h es) i
executed_has h (e ∷ es) i (inl k) = merged_keeps (h ++ filter (is_new h) e.order) es i (new_has h e.order i k)
executed_has h (e ∷ es) i (inr k) = executed_has (h ++ filter (is_new h) e.order) es i k
executed_has h [] i k = absurd k

pub has_executed : (h : List ℕ) (es : List Execution) (i : ℕ) → Has (merged h es) i → Has h i ⊎ IsExecutedIn es i
has_executed h [] i k = inl k
has_executed h (e ∷ es) i k = elim (has_executed (h ++ filter (is_new h) e.order) es i k) [
  | inl a ↦ elim (has_split h (filter (is_new h) e.order) i a) [ inl q ↦ inl q | inr q ↦ inr (inl (has_filter (is_new h) e.order i q).0) ]
  | inr a ↦ inr (inr a)
]

pub earlier_first_lem : EarlierFirst
earlier_first_lem c before rest i j ri rj hj ni =
    let h : List ℕ = merged [] before in
    let in_h : Has h j = executed_has [] before j hj in
    let not_in : Has h i → ⊥ = (λ k. elim (has_executed [] before i k) [ inl a ↦ omega arith | inr a ↦ ni a ]) in
    let more = merged_grows h rest in
    let e : merged [] (before ++ rest) ≡ h ++ more.0 = merged_both [] before rest ∙ more.1 in
    let lt : place (h ++ more.0) j < place (h ++ more.0) i = omega (arith, place-append_in h more.0 j in_h, place-append_out h more.0 i not_in) in
    filter_forth (is_real c) (merged [] (before ++ rest)) j i (ap (λ b. cond b false true) rj) (ap (λ b. cond b false true) ri) (subst (λ ys. place ys j < place ys i) (sym e) lt)
