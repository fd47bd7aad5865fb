-- A union has the members of both, and a rising list is known by its members.
use Rattle.std.proofs.Common.{◌≡◌, ℕ, ◌<◌, ◌≤◌, ◌⊎◌, List, [], ◌∷◌, refl, sym, arith, inl, inr, ◌∙◌}
use Rattle.std.specs.List.{AllByRecursion}
use Rattle.std.specs.Ordering.{nat_cmp, MatchOrdering}
use Rattle.std.specs.declared.cmp.Ordering.{Ordering}
use Rattle.std.specs.declared.cmp.Ordering.TheVariants.{Less, Equal, Greater}
use Rattle.std.proofs.lemmas.Cmp.{ranked}
use Rattle.ep_base.specs.Places.{Has}
use Rattle.ep_base.specs.Deps.{IsRising, IsUnion, union, union_from, by_order}
use Rattle.ep_base.proofs.Places.{Has-empty, Has-cons_cases, Has-head, Has-tail}

-- what is one of two lists stays so where a list grows
in_first : (x : ℕ) (is js : List ℕ) (k : ℕ) → Has is k ⊎ Has js k → Has (x ∷ is) k ⊎ Has js k
in_first x is js k (inl h) = inl (Has-tail x is k h)
in_first x is js k (inr h) = inr h

in_second : (y : ℕ) (is js : List ℕ) (k : ℕ) → Has is k ⊎ Has js k → Has is k ⊎ Has (y ∷ js) k
in_second y is js k (inl h) = inl h
in_second y is js k (inr h) = inr (Has-tail y js k h)

cases_from : (i j : ℕ) (is js : List ℕ) (k : ℕ) (o : Ordering)
    → (Has (union is (j ∷ js)) k → Has is k ⊎ Has (j ∷ js) k) → (Has (union is js) k → Has is k ⊎ Has js k) → (Has (union_from i (union is) js) k → Has (i ∷ is) k ⊎ Has js k)
    → Has (by_order o (i ∷ union is (j ∷ js)) (i ∷ union is js) (j ∷ union_from i (union is) js)) k → Has (i ∷ is) k ⊎ Has (j ∷ js) k
cases_from i j is js k Less a b c h = elim (Has-cons_cases i _ k h) [ inl e ↦ inl (Has-head i is k e) | inr t ↦ in_first i is (j ∷ js) k (a t) ]
cases_from i j is js k Equal a b c h = elim (Has-cons_cases i _ k h) [ inl e ↦ inl (Has-head i is k e) | inr t ↦ in_second j (i ∷ is) js k (in_first i is js k (b t)) ]
cases_from i j is js k Greater a b c h = elim (Has-cons_cases j _ k h) [ inl e ↦ inr (Has-head j js k e) | inr t ↦ in_second j (i ∷ is) js k (c t) ]

union_from-cases : (i : ℕ) (is : List ℕ) (k : ℕ) → ((b : List ℕ) → Has (union is b) k → Has is k ⊎ Has b k) → (js : List ℕ) → Has (union_from i (union is) js) k → Has (i ∷ is) k ⊎ Has js k
union_from-cases i is k rest [] h = elim (Has-cons_cases i _ k h) [ inl e ↦ inl (Has-head i is k e) | inr t ↦ in_first i is [] k (rest [] t) ]
union_from-cases i is k rest (j ∷ js) h = cases_from i j is js k (nat_cmp i j) (rest (j ∷ js)) (rest js) (union_from-cases i is k rest js) h

pub union-cases : (a b : List ℕ) (k : ℕ) → Has (union a b) k → Has a k ⊎ Has b k
union-cases [] b k h = inr h
union-cases (i ∷ is) b k h = union_from-cases i is k (λ c. union-cases is c k) b h

from_cases : (i j : ℕ) (is js : List ℕ) (k : ℕ) (o : Ordering) → MatchOrdering o (i < j) (i ≡ j) (j < i)
    → (Has is k ⊎ Has (j ∷ js) k → Has (union is (j ∷ js)) k) → (Has is k ⊎ Has js k → Has (union is js) k) → (Has (i ∷ is) k ⊎ Has js k → Has (union_from i (union is) js) k)
    → Has (i ∷ is) k ⊎ Has (j ∷ js) k → Has (by_order o (i ∷ union is (j ∷ js)) (i ∷ union is js) (j ∷ union_from i (union is) js)) k
from_cases i j is js k Less p a b c (inl h) = elim (Has-cons_cases i is k h) [ inl e ↦ Has-head i _ k e | inr t ↦ Has-tail i _ k (a (inl t)) ]
from_cases i j is js k Less p a b c (inr h) = Has-tail i _ k (a (inr h))
from_cases i j is js k Equal p a b c (inl h) = elim (Has-cons_cases i is k h) [ inl e ↦ Has-head i _ k e | inr t ↦ Has-tail i _ k (b (inl t)) ]
from_cases i j is js k Equal p a b c (inr h) = elim (Has-cons_cases j js k h) [ inl e ↦ Has-head i _ k (p ∙ e) | inr t ↦ Has-tail i _ k (b (inr t)) ]
from_cases i j is js k Greater p a b c (inl h) = Has-tail j _ k (c (inl h))
from_cases i j is js k Greater p a b c (inr h) = elim (Has-cons_cases j js k h) [ inl e ↦ Has-head j _ k e | inr t ↦ Has-tail j _ k (c (inr t)) ]

union_from-has : (i : ℕ) (is : List ℕ) (k : ℕ) → ((b : List ℕ) → Has is k ⊎ Has b k → Has (union is b) k) → (js : List ℕ) → Has (i ∷ is) k ⊎ Has js k → Has (union_from i (union is) js) k
union_from-has i is k rest [] (inl h) = elim (Has-cons_cases i is k h) [ inl e ↦ Has-head i _ k e | inr t ↦ Has-tail i _ k (rest [] (inl t)) ]
union_from-has i is k rest [] (inr h) = absurd (Has-empty k h)
union_from-has i is k rest (j ∷ js) h = from_cases i j is js k (nat_cmp i j) (ranked i j _ refl) (rest (j ∷ js)) (rest js) (union_from-has i is k rest js) h

pub Has-union : (a b : List ℕ) (k : ℕ) → Has a k ⊎ Has b k → Has (union a b) k
Has-union [] b k (inl h) = absurd (Has-empty k h)
Has-union [] b k (inr h) = h
Has-union (i ∷ is) b k h = union_from-has i is k (λ c. Has-union is c k) b h

-- the union of two lists has what is in either
pub IsUnion-union : (a b : List ℕ) → IsUnion (union a b) a b
IsUnion-union a b k = (union-cases a b k, Has-union a b k)

module _ (P : ℕ → Type 0) where
  all_by_order : (i j : ℕ) (a b c : List ℕ) (o : Ordering) → P i → P j → AllByRecursion P a → AllByRecursion P b → AllByRecursion P c → AllByRecursion P (by_order o (i ∷ a) (i ∷ b) (j ∷ c))
  all_by_order i j a b c Less p q x y z = (p, x)
  all_by_order i j a b c Equal p q x y z = (p, y)
  all_by_order i j a b c Greater p q x y z = (q, z)

  all_from : (i : ℕ) (is : List ℕ) → P i → ((b : List ℕ) → AllByRecursion P b → AllByRecursion P (union is b)) → (js : List ℕ) → AllByRecursion P js → AllByRecursion P (union_from i (union is) js)
  all_from i is p rest [] h = (p, rest [] tt)
  all_from i is p rest (j ∷ js) h = all_by_order i j _ _ _ (nat_cmp i j) p h.0 (rest (j ∷ js) h) (rest js h.1) (all_from i is p rest js h.1)

  -- what holds of the members of both holds of the union's
  pub all_union : (a b : List ℕ) → AllByRecursion P a → AllByRecursion P b → AllByRecursion P (union a b)
  all_union [] b h k = k
  all_union (i ∷ is) b h k = all_from i is h.0 (λ c. all_union is c h.1) b k

-- the first of a rising list is below the others
pub first_below : (i : ℕ) (is : List ℕ) → IsRising (i ∷ is) → (k : ℕ) → Has is k → i < k
first_below i [] h k has = absurd (Has-empty k has)
first_below i (j ∷ js) h k has = elim (Has-cons_cases j js k has) [ inl e ↦ omega (arith, e, h.0) | inr t ↦ omega (arith, h.0, first_below j js h.1 k t) ]

-- all that one list has, another has
abbrev pub Within : List ℕ → List ℕ → Type 0
Within a b = (k : ℕ) → Has a k → Has b k

-- what is left within what is left, where the first ones are equal
rest_within : (i j : ℕ) (is js : List ℕ) → i ≡ j → IsRising (i ∷ is) → Within (i ∷ is) (j ∷ js) → Within is js
rest_within i j is js e h w k has = elim (Has-cons_cases j js k (w k (Has-tail i is k has))) [ inl same ↦ absurd (omega (arith, e, same, first_below i is h k has)) | inr t ↦ t ]

-- the first one of a rising list is at or below each that the list has
first_least : (i : ℕ) (is : List ℕ) → IsRising (i ∷ is) → (k : ℕ) → Has (i ∷ is) k → i ≤ k
first_least i is h k has = elim (Has-cons_cases i is k has) [ inl e ↦ omega (arith, e) | inr t ↦ omega (arith, first_below i is h k t) ]

-- two rising lists with the same members are equal
pub same_members : (a b : List ℕ) → IsRising a → IsRising b → Within a b → Within b a → a ≡ b
same_members [] [] h k v w = refl
same_members [] (j ∷ js) h k v w = absurd (Has-empty j (w j (Has-head j js j refl)))
same_members (i ∷ is) [] h k v w = absurd (Has-empty i (v i (Has-head i is i refl)))
same_members (i ∷ is) (j ∷ js) h k v w =
    let least_i = first_least i is h j (w j (Has-head j js j refl)) in
    let least_j = first_least j js k i (v i (Has-head i is i refl)) in
    let same : i ≡ j = omega (arith, least_i, least_j) in
    let rest : is ≡ js = same_members is js h.1 k.1 (rest_within i j is js same h v) (rest_within j i js is (sym same) k w) in
    rw (same, rest) refl
