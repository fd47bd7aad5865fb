-- What a list has.
use Rattle.std.proofs.Common.{◌≡◌, ℕ, suc, ◌<◌, ◌⊎◌, List, [], ◌∷◌, length, refl, arith, inl, inr, Bool, true, false}
use Rattle.std.specs.Prelude.{◌==◌, if◌then◌else◌}
use Rattle.std.proofs.lemmas.Bool.{eq-eqb, eqb-true}
use Rattle.ep_base.specs.Places.{place, Has}

pub Has-empty : (i : ℕ) → ¬ Has [] i
Has-empty i h = absurd (omega (arith, h))

at_head : (b : Bool) (n m : ℕ) → (if b then 0 else suc n) < suc m → (b ≡ true) ⊎ (n < m)
at_head true n m h = inl refl
at_head false n m h = inr (omega (arith, h))

in_head : (b : Bool) (n m : ℕ) → b ≡ true → (if b then 0 else suc n) < suc m
in_head true n m e = omega arith
in_head false n m e = grind arith

in_tail : (b : Bool) (n m : ℕ) → n < m → (if b then 0 else suc n) < suc m
in_tail true n m h = omega arith
in_tail false n m h = omega (arith, h)

pub Has-cons_cases : (x : ℕ) (xs : List ℕ) (i : ℕ) → Has (x ∷ xs) i → (x ≡ i) ⊎ Has xs i
Has-cons_cases x xs i h = elim (at_head (x == i) (place xs i) (length xs) h) [ inl e ↦ inl (eqb-true x i e) | inr k ↦ inr k ]

pub Has-head : (x : ℕ) (xs : List ℕ) (i : ℕ) → x ≡ i → Has (x ∷ xs) i
Has-head x xs i e = in_head (x == i) (place xs i) (length xs) (eq-eqb x i e)

pub Has-first : (x : ℕ) (xs : List ℕ) → Has (x ∷ xs) x
Has-first x xs = Has-head x xs x refl

pub Has-tail : (x : ℕ) (xs : List ℕ) (i : ℕ) → Has xs i → Has (x ∷ xs) i
Has-tail x xs i h = in_tail (x == i) (place xs i) (length xs) h
