-- A root has one plan at most.
use Rattle.std.proofs.Common.{◌≡◌, ℕ, ◌⊎◌, inl, inr, List, [], ◌∷◌, ◌++◌, refl, sym, ap, subst, ◌∙◌, arith}
use Rattle.std.specs.List.{flat_map}
use Rattle.std.proofs.lemmas.Bool.{cases_order}
use Rattle.ep_base.specs.Places.{Has}
use Rattle.ep_base.proofs.Places.{Has-first}
use Rattle.ep_rules.specs.Graph.{Graph, Reaches}
use Rattle.ep_rules.specs.Order.{Ranks, Rises, Together, IsNext, InBlocks}
use Rattle.ep_rules.specs.History.{OnePlan}
use Rattle.ep_rules.proofs.Places.{has_cons, has_tail}
use Rattle.ep_rules.proofs.Ranks.{ranks_not}

-- two rising lists of the same instances are one
same_rises : (g : Graph) (xs ys : List ℕ) → Rises g xs → Rises g ys → ((j : ℕ) → Has xs j → Has ys j) → ((j : ℕ) → Has ys j → Has xs j) → xs ≡ ys
same_rises g [] [] rx ry to back = refl
same_rises g [] (y ∷ ys) rx ry to back = (let k = back y (Has-first y ys) in absurd (omega arith))
same_rises g (x ∷ xs) [] rx ry to back = (let k = to x (Has-first x xs) in absurd (omega arith))
same_rises g (x ∷ xs) (y ∷ ys) rx ry to back = go (has_cons y x ys (to x (Has-first x xs))) (has_cons x y xs (back y (Has-first y ys))) (same_rises g xs ys rx.1 ry.1)
  where
    tails : x ≡ y → (((j : ℕ) → Has xs j → Has ys j) → ((j : ℕ) → Has ys j → Has xs j) → xs ≡ ys) → x ∷ xs ≡ y ∷ ys
    tails e r = λ k. e k ∷ (r (λ j h. elim (has_cons y j ys (to j (has_tail x j xs h))) [ inl q ↦ absurd (let s : Ranks g j j = subst (λ z. Ranks g z j) (e ∙ q) (rx.0 j h) in ranks_not g j j s s) | inr q ↦ q ])
        (λ j h. elim (has_cons x j xs (back j (has_tail y j ys h))) [ inl q ↦ absurd (let s : Ranks g j j = subst (λ z. Ranks g z j) (sym e ∙ q) (ry.0 j h) in ranks_not g j j s s) | inr q ↦ q ])) k

    go : (y ≡ x) ⊎ Has ys x → (x ≡ y) ⊎ Has xs y → (((j : ℕ) → Has xs j → Has ys j) → ((j : ℕ) → Has ys j → Has xs j) → xs ≡ ys) → x ∷ xs ≡ y ∷ ys
    go (inl e) q r = tails (sym e) r
    go (inr a) (inl e) r = tails e r
    go (inr a) (inr b) r = absurd (ranks_not g y x (ry.0 x a) (rx.0 y b))

same_next : (g : Graph) (done : List ℕ) (root : ℕ) (a b : List ℕ) → IsNext g done root a → IsNext g done root b → a ≡ b
same_next g done root a b n m =
    same_rises g a b n.is.rises m.is.rises
    (λ j h. (m.is.members j).1 (subst (λ f. Together g f j × ¬ Has done j) one ((n.is.members j).0 h)))
    (λ j h. (n.is.members j).1 (subst (λ f. Together g f j × ¬ Has done j) (sym one) ((m.is.members j).0 h)))
  where
    one : n.first ≡ m.first
    one = elim (cases_order n.first m.first) [
      | inl e ↦ e
      | inr (inl l) ↦ absurd (m.least n.first n.reached n.ready l)
      | inr (inr l) ↦ absurd (n.least m.first m.reached m.ready l)
    ]

-- where a block is next, something is left
next_left : (g : Graph) (done : List ℕ) (root : ℕ) (a : List ℕ) → IsNext g done root a → ((j : ℕ) → Reaches g root j → Has done j) → ⊥
next_left g done root a n h = n.ready.left (h n.first n.reached)

same_blocks : (g : Graph) (done : List ℕ) (root : ℕ) (xss yss : List (List ℕ)) → InBlocks g done root xss → InBlocks g done root yss → flat_map (λ b. b) xss ≡ flat_map (λ b. b) yss
same_blocks g done root [] [] h k = refl
same_blocks g done root [] (b ∷ bs) h k = absurd (next_left g done root b k.0 h)
same_blocks g done root (a ∷ xss) [] h k = absurd (next_left g done root a h.0 k)
same_blocks g done root (a ∷ xss) (b ∷ bs) h k =
    let e = same_next g done root a b h.0 k.0 in
    ap (λ xs. a ++ xs) (same_blocks g (done ++ a) root xss bs h.1 (subst (λ xs. InBlocks g (done ++ xs) root bs) (sym e) k.1)) ∙ ap (λ xs. xs ++ flat_map (λ b. b) bs) e

pub one_plan_lem : OnePlan
one_plan_lem g done root a b (inl p) (inl q) = p.1 ∙ sym q.1
one_plan_lem g done root a b (inl p) (inr q) = absurd (q.0 p.0)
one_plan_lem g done root a b (inr p) (inl q) = absurd (p.0 q.0)
one_plan_lem g done root a b (inr p) (inr q) = p.1.1.1 ∙ same_blocks g done root p.1.1.0 q.1.1.0 p.1.1.2 q.1.1.2 ∙ sym q.1.1.1
