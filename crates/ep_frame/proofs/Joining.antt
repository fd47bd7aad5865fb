-- A join with what is there already.
use Rattle.std.proofs.Common.{◌≡◌, ℕ, true, List, [], ◌∷◌, refl, sym, ap, subst, ◌∙◌, arith}
use Rattle.std.specs.Prelude.{max}
use Rattle.std.specs.Ordering.{nat_cmp}
use Rattle.std.specs.Cmp.{nat_cmp_is}
use Rattle.std.specs.declared.cmp.Ordering.{Ordering}
use Rattle.std.specs.declared.cmp.Ordering.TheVariants.{Equal}
use Rattle.ep_base.specs.Attributes.{join, same_attrs}
use Rattle.ep_base.specs.Deps.{union, union_from, by_order}
use Rattle.ep_base.specs.declared.attrs.Attrs.{Attrs}
use Rattle.ep_base.proofs.Same.{Decides-same_attrs}

union_self : (is : List ℕ) → union is is ≡ is
union_self [] = refl
union_self (i ∷ is) =
    let equal : nat_cmp i i ≡ Equal = sym (nat_cmp_is i i Equal refl) in
    ap (λ (o : Ordering). by_order o (i ∷ union is (i ∷ is)) (i ∷ union is is) (i ∷ union_from i (union is) is)) equal ∙ ap (λ (xs : List ℕ). i ∷ xs) (union_self is)

max_self : (n : ℕ) → max n n ≡ n
max_self n = omega arith

join_self : (a : Attrs) → a ≡ join a a
join_self a = sym (λ t. record { seq = max_self a.seq t; deps = union_self a.deps t })

-- equal attributes add nothing
pub joined_same : (a b : Attrs) → same_attrs a b ≡ true → b ≡ join a b
joined_same a b h = subst (λ (x : Attrs). b ≡ join x b) (sym ((Decides-same_attrs a b).0 h)) (join_self b)
