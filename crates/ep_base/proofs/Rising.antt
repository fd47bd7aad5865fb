-- When a rising list stays so with one number more at its end.
use Rattle.std.proofs.Common.{◌≡◌, ℕ, zero, suc, ◌-◌, ◌<◌, List, [], ◌∷◌, ◌++◌, length, refl, sym, subst, arith, Some, ltb}
use Rattle.std.specs.Prelude.{slice_get}
use Rattle.std.specs.Bool.{Decides}
use Rattle.std.proofs.lemmas.Option.{none-some, same_Some}
use Rattle.std.proofs.lemmas.Bool.Decides.{Decides-like, Decides-ltb}
use Rattle.ep_base.specs.Deps.{IsRising}

last_below : (x : ℕ) (xs : List ℕ) (n i j : ℕ) → length xs ≡ n → slice_get (x ∷ xs) n ≡ Some j → IsRising (x ∷ xs) → j < i → IsRising ((x ∷ xs) ++ i ∷ [])
last_below x [] zero i j e at h low = (subst (λ k. k < i) (sym (same_Some x j at)) low, (tt, tt))
last_below x [] (suc n) i j e at h low = absurd (omega (arith, e))
last_below x (y ∷ ys) zero i j e at h low = absurd (omega (arith, e))
last_below x (y ∷ ys) (suc n) i j e at h low = (h.0, last_below y ys n i j (omega (arith, e)) at h.1 low)

below_last : (x : ℕ) (xs : List ℕ) (n i j : ℕ) → length xs ≡ n → slice_get (x ∷ xs) n ≡ Some j → IsRising ((x ∷ xs) ++ i ∷ []) → j < i
below_last x [] zero i j e at h = subst (λ k. k < i) (same_Some x j at) h.0
below_last x [] (suc n) i j e at h = absurd (omega (arith, e))
below_last x (y ∷ ys) zero i j e at h = absurd (omega (arith, e))
below_last x (y ∷ ys) (suc n) i j e at h = below_last y ys n i j (omega (arith, e)) at h.1

front_length : (x : ℕ) (xs : List ℕ) → length (x ∷ xs) - 1 ≡ length xs
front_length x xs = omega arith

-- one number more stands rightly where it is above the last one
pub Decides-rising_push : (xs : List ℕ) (i j : ℕ) → IsRising xs → slice_get xs (length xs - 1) ≡ Some j → Decides (ltb j i) (IsRising (xs ++ i ∷ []))
Decides-rising_push [] i j h at = absurd (none-some j at)
Decides-rising_push (x ∷ xs) i j h at =
    let at_end : slice_get (x ∷ xs) (length xs) ≡ Some j = subst (λ n. slice_get (x ∷ xs) n ≡ Some j) (front_length x xs) at in
    Decides-like (ltb j i) (last_below x xs (length xs) i j refl at_end h) (below_last x xs (length xs) i j refl at_end) (Decides-ltb j i)

-- the front of a rising list rises
pub rising_front : (xs ys : List ℕ) → IsRising (xs ++ ys) → IsRising xs
rising_front [] ys h = tt
rising_front (x ∷ []) ys h = (tt, tt)
rising_front (x ∷ y ∷ xs) ys h = (h.0, rising_front (y ∷ xs) ys h.1)

pub rising_to : (xs : List ℕ) (i : ℕ) (ys : List ℕ) → IsRising (xs ++ (i ∷ ys)) → IsRising (xs ++ (i ∷ []))
rising_to [] i ys h = (tt, tt)
rising_to (x ∷ []) i ys h = (h.0, (tt, tt))
rising_to (x ∷ y ∷ xs) i ys h = (h.0, rising_to (y ∷ xs) i ys h.1)
