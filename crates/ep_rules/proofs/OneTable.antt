-- Journals have one table at most.
use Rattle.std.proofs.Common.{◌≡◌, ℕ, ◌<◌, ◌↔◌, inl, inr, List, [], ◌∷◌, refl, sym, ap, subst, ◌∙◌, arith}
use Rattle.ep_base.specs.Deps.{IsRising, IsBelowFirst}
use Rattle.ep_base.specs.declared.decree.Decree.{Decree}
use Rattle.ep_rules.specs.Worlds.{In}
use Rattle.ep_rules.specs.Verdicts.{instances_of}
use Rattle.ep_rules.specs.Merging.{OneTable}

-- the first is below all others
below : (i : ℕ) (xs : List (ℕ × Decree)) (z : ℕ × Decree) → IsBelowFirst i (instances_of xs) → IsRising (instances_of xs) → In z xs → i < z.0
below i [] z b r h = absurd h
below i (x ∷ xs) z b r (inl e) = subst (λ y. i < y.0) e b
below i (x ∷ xs) z b r (inr h) = let l = below x.0 xs z r.0 r.1 h in omega arith

one : (xs ys : List (ℕ × Decree)) → IsRising (instances_of xs) → IsRising (instances_of ys) → ((z : ℕ × Decree) → In z xs ↔ In z ys) → xs ≡ ys
one [] [] rx ry same = refl
one [] (y ∷ ys) rx ry same = absurd ((same y).1 (inl refl))
one (x ∷ xs) [] rx ry same = absurd ((same x).0 (inl refl))
one (x ∷ xs) (y ∷ ys) rx ry same =
    let is : x ≡ y = heads ((same x).0 (inl refl)) ((same y).1 (inl refl)) in
    ap (λ z. z ∷ xs) is ∙ ap (λ zs. y ∷ zs) (one xs ys rx.1 ry.1 (λ z. (
      λ h. elim ((same z).0 (inr h)) [
        | inl e ↦ absurd (let l = below x.0 xs z rx.0 rx.1 h in let s : x.0 ≡ z.0 = ap (λ p. p.0) (is ∙ e) in omega arith)
        | inr k ↦ k
      ],
      λ h. elim ((same z).1 (inr h)) [
        | inl e ↦ absurd (let l = below y.0 ys z ry.0 ry.1 h in let s : y.0 ≡ z.0 = ap (λ p. p.0) (sym is ∙ e) in omega arith)
        | inr k ↦ k
      ],
    )))
  where
    heads : In x (y ∷ ys) → In y (x ∷ xs) → x ≡ y
    heads (inl e) q = sym e
    heads (inr h) (inl e) = e
    heads (inr h) (inr k) = absurd (let l = below y.0 ys x ry.0 ry.1 h in let m = below x.0 xs y rx.0 rx.1 k in omega arith)

pub one_table_lem : OneTable
one_table_lem base f journal first second a b = one first second a.rises b.rises (λ z. (λ h. (b.holds z.0 z.1).1 ((a.holds z.0 z.1).0 h), λ h. (a.holds z.0 z.1).1 ((b.holds z.0 z.1).0 h)))
