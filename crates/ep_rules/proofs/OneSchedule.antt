-- Journals have one schedule at most.
use Rattle.std.proofs.Common.{◌≡◌, ℕ, Bool, true, false, cond, eqb, inl, List, [], ◌∷◌, refl, sym, ap, subst, ◌∙◌, arith}
use Rattle.std.proofs.lemmas.Bool.{eq-eqb, eqb-true, ne_eqb, false≢true}
use Rattle.ep_rules.specs.Worlds.{In}
use Rattle.ep_rules.specs.Journals.{Entry, Scheduled, of, Precedes, Rises}
use Rattle.ep_rules.specs.Merging.{OneSchedule}
use Rattle.ep_rules.proofs.Merged.{of_in}

first_here : (a : Scheduled) (xs : List Scheduled) → of a.replica (a ∷ xs) ≡ a.entry ∷ of a.replica xs
first_here a xs = ap (λ b. cond b (a.entry ∷ of a.replica xs) (of a.replica xs)) (eq-eqb a.replica a.replica refl)

nil_cons : {A : Type 0} (x : Entry) (xs : List Entry) → [] ≡ x ∷ xs → A
nil_cons x xs e = absurd (cc)

pub heads : (x y : Entry) (xs ys : List Entry) → x ∷ xs ≡ y ∷ ys → x ≡ y
heads x y xs ys e = cc

pub tails : (x y : Entry) (xs ys : List Entry) → x ∷ xs ≡ y ∷ ys → xs ≡ ys
tails x y xs ys e = cc

-- the other list's first act stands after one of another replica
after : (a b : Scheduled) (xs ys : List Scheduled) → (eqb a.replica b.replica ≡ false) → ((r : ℕ) → of r (a ∷ xs) ≡ of r (b ∷ ys)) → In b xs
after a b xs ys ne same =
    let e : of b.replica xs ≡ b.entry ∷ of b.replica ys = ap (λ t. cond t (a.entry ∷ of b.replica xs) (of b.replica xs)) (sym ne) ∙ same b.replica ∙ first_here b ys in
    let t = of_in b.replica b.entry xs (subst (λ es. In b.entry es) (sym e) (inl refl)) in
    subst (λ z. In z xs) (λ k. record { replica = t.2 k; entry = t.3 k }) t.1

not_both : (a b : Scheduled) → Precedes a b → Precedes b a → ⊥
not_both a b p q = omega arith

rest_same : (a b : Scheduled) (xs ys : List Scheduled) → a ≡ b → ((r : ℕ) → of r (a ∷ xs) ≡ of r (b ∷ ys)) → (r : ℕ) → of r xs ≡ of r ys
rest_same a b xs ys is same r = go (eqb a.replica r) (subst (λ (z : Scheduled). of r (a ∷ xs) ≡ of r (z ∷ ys)) (sym is) (same r))
  where
    go : (t : Bool) → cond t (a.entry ∷ of r xs) (of r xs) ≡ cond t (a.entry ∷ of r ys) (of r ys) → of r xs ≡ of r ys
    go true e = tails a.entry a.entry (of r xs) (of r ys) e
    go false e = e

one : (xs ys : List Scheduled) → Rises xs → Rises ys → ((r : ℕ) → of r xs ≡ of r ys) → xs ≡ ys
one [] [] rx ry same = refl
one [] (b ∷ ys) rx ry same = nil_cons b.entry (of b.replica ys) (same b.replica ∙ first_here b ys)
one (a ∷ xs) [] rx ry same = nil_cons a.entry (of a.replica xs) (sym (same a.replica) ∙ first_here a xs)
one (a ∷ xs) (b ∷ ys) rx ry same = go (eqb a.replica b.replica) refl (one xs ys rx.1 ry.1)
  where
    go : (t : Bool) → eqb a.replica b.replica ≡ t → (((r : ℕ) → of r xs ≡ of r ys) → xs ≡ ys) → a ∷ xs ≡ b ∷ ys
    go true q rec =
        let r = eqb-true a.replica b.replica q in
        let e : a.entry ∷ of a.replica xs ≡ b.entry ∷ of b.replica ys = sym (first_here a xs) ∙ same a.replica ∙ ap (λ z. of z (b ∷ ys)) r ∙ first_here b ys in
        let h : a.entry ≡ b.entry = heads a.entry b.entry (of a.replica xs) (of b.replica ys) e in
        let is : a ≡ b = (λ k. record { replica = r k; entry = h k }) in
        ap (λ z. z ∷ xs) is ∙ ap (λ zs. b ∷ zs) (rec (rest_same a b xs ys is same))
    go false q rec =
        let other : eqb b.replica a.replica ≡ false = ne_eqb b.replica a.replica (λ s. false≢true (sym q ∙ eq-eqb a.replica b.replica (sym s))) in
        absurd (not_both a b (rx.0 b (after a b xs ys q same)) (ry.0 a (after b a ys xs other (λ r. sym (same r)))))

pub one_schedule_lem : OneSchedule
one_schedule_lem journal xs ys hx hy = one xs ys hx.1 hy.1 (λ r. hx.0 r ∙ sym (hy.0 r))
