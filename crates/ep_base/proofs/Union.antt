-- The union of two rising lists is rising.
use Rattle.std.proofs.Common.{◌≡◌, ℕ, ◌<◌, ◌≤◌, ◌⊎◌, List, [], ◌∷◌, ◌++◌, ◌-◌, length, take, drop, refl, sym, ap, subst, inl, inr}
use Rattle.std.specs.Ordering.{nat_cmp, MatchOrdering}
use Rattle.std.specs.declared.cmp.Ordering.{Ordering}
use Rattle.std.specs.declared.cmp.Ordering.TheVariants.{Less, Equal, Greater}
use Rattle.std.proofs.lemmas.Cmp.{ranked}
use Rattle.std.proofs.lemmas.List.{append-nil, take_rest}
use Rattle.std.proofs.Math.ListN.{drop_of_length-le}
use Rattle.ep_base.specs.Deps.{IsBelowFirst, IsRising, union, union_from, by_order}

pub union-nil : (is : List ℕ) → union is [] ≡ is
union-nil [] = refl
union-nil (i ∷ is) = ap (λ (xs : List ℕ). i ∷ xs) (union-nil is)

-- what is left of one list stands after the other's end
union-ends : (done : List ℕ) (a b : List ℕ) (i j : ℕ) → (length a ≤ i) ⊎ (length b ≤ j) → done ++ union (drop i a) (drop j b) ≡ (done ++ drop i a) ++ drop j b
union-ends done a b i j (inl h) = rw (drop_of_length-le a h, append-nil) refl
union-ends done a b i j (inr h) = rw (drop_of_length-le b h, union-nil, append-nil) refl

-- the same as code writes the ends
pub union-ended : (done : List ℕ) (a b : List ℕ) (i j : ℕ) → (length a ≤ i) ⊎ (length b ≤ j)
    → (done ++ take (length a - i) (drop i a)) ++ take (length b - j) (drop j b) ≡ done ++ union (drop i a) (drop j b)
union-ended done a b i j h = rw (take_rest a i, take_rest b j) (sym (union-ends done a b i j h))

both_below : (i : ℕ) (a b : List ℕ) → IsBelowFirst i a → IsBelowFirst i b → IsBelowFirst i (union a b)
both_below i [] b h k = k
both_below i (x ∷ xs) [] h k = h
both_below i (x ∷ xs) (y ∷ ys) h k =
    elim (nat_cmp x y) as (λ o. IsBelowFirst i (by_order o (x ∷ union xs (y ∷ ys)) (x ∷ union xs ys) (y ∷ union_from x (union xs) ys))) [ Less ↦ h | Equal ↦ h | Greater ↦ k ]

rising_at : (i j : ℕ) (is js : List ℕ) (o : Ordering) → MatchOrdering o (i < j) (i ≡ j) (j < i) → IsRising (i ∷ is) → IsRising (j ∷ js)
    → IsRising (union is (j ∷ js)) → IsRising (union is js) → IsRising (union (i ∷ is) js) → IsRising (by_order o (i ∷ union is (j ∷ js)) (i ∷ union is js) (j ∷ union_from i (union is) js))
rising_at i j is js Less p h k r s t = (both_below i is (j ∷ js) h.0 p, r)
rising_at i j is js Equal p h k r s t = (both_below i is js h.0 (subst (λ x. IsBelowFirst x js) (sym p) k.0), s)
rising_at i j is js Greater p h k r s t = (both_below j (i ∷ is) js p k.0, t)

rising_from : (i : ℕ) (is : List ℕ) → ((b : List ℕ) → IsRising b → IsRising (union is b)) → IsRising (i ∷ is) → (js : List ℕ) → IsRising js → IsRising (union_from i (union is) js)
rising_from i is rest h [] k = (both_below i is [] h.0 tt, rest [] tt)
rising_from i is rest h (j ∷ js) k = rising_at i j is js (nat_cmp i j) (ranked i j _ refl) h k (rest (j ∷ js) k) (rest js k.1) (rising_from i is rest h js k.1)

pub IsRising-union : (a b : List ℕ) → IsRising a → IsRising b → IsRising (union a b)
IsRising-union [] b h k = k
IsRising-union (i ∷ is) b h k = rising_from i is (λ c kc. IsRising-union is c h.1 kc) h b k
