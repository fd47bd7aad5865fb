-- Sets of instances, as lists in rising order.
use Rattle.std.specs.Prelude.{ℕ, ◌<◌, ◌⊎◌, ◌↔◌, List, [], ◌∷◌}
use Rattle.std.specs.Ordering.{nat_cmp}
use Rattle.std.specs.List.{AllByRecursion}
use Rattle.std.specs.declared.cmp.Ordering.{Ordering}
use Rattle.std.specs.declared.cmp.Ordering.TheVariants.{Less, Equal, Greater}
use Rattle.ep_base.specs.Instances.{IsInstance}
use Rattle.ep_base.specs.Places.{Has}

-- i is below the first of them, if there is one
abbrev pub IsBelowFirst : ℕ → List ℕ → Type 0
IsBelowFirst i [] = Unit {0}
IsBelowFirst i (j ∷ js) = i < j

abbrev pub IsRising : List ℕ → Type 0
IsRising [] = Unit {0}
IsRising (i ∷ is) = IsBelowFirst i is × IsRising is

abbrev pub AreInstances : List ℕ → Type 0
AreInstances is = AllByRecursion IsInstance is

-- the instances of a set, in rising order
pub record IsDeps (is : List ℕ) : Type 0 where
  pub rising : IsRising is
  pub instances : AreInstances is

-- as many as there are instances
abbrev pub most_deps : ℕ
most_deps = 63000

-- ks has what is and js have, and nothing else
abbrev pub IsUnion : List ℕ → List ℕ → List ℕ → Type 0
IsUnion ks is js = (i : ℕ) → Has ks i ↔ (Has is i ⊎ Has js i)

abbrev pub by_order : {A : Type 0} → Ordering → A → A → A → A
by_order Less a b c = a
by_order Equal a b c = b
by_order Greater a b c = c

-- i and what `rest` makes of the others, merged with js
abbrev pub union_from : ℕ → (List ℕ → List ℕ) → List ℕ → List ℕ
union_from i rest [] = i ∷ rest []
union_from i rest (j ∷ js) = by_order (nat_cmp i j) (i ∷ rest (j ∷ js)) (i ∷ rest js) (j ∷ union_from i rest js)

-- the members of both rising lists, in rising order
abbrev pub union : List ℕ → List ℕ → List ℕ
union [] js = js
union (i ∷ is) js = union_from i (union is) js
