-- Where operations of generations stand.
use Rattle.std.proofs.Common.{◌≡◌, ℕ, suc, ◌+◌, ◌<◌, ◌⊎◌, Bool, true, false, cond, ◌&&◌, eqb, inl, inr, List, [], ◌∷◌, ◌++◌, length, refl, sym, ap, ◌∙◌, arith, length-append}
use Rattle.std.proofs.lemmas.Bool.{cases_lt}
use Rattle.ep_base.specs.Places.{place}
use Rattle.ep_rules.specs.Generations.{Named, named, operations, place_in, HasIn, NamedOnce}
use Rattle.ep_rules.specs.Operations.{Operation, instances_of}
use Rattle.ep_rules.specs.Worlds.{In}
use Rattle.ep_rules.proofs.Places.{Once, same_refl}

pub length_named : (g : ℕ) (os : List Operation) → length (named g os) ≡ length (instances_of os)
length_named g [] = refl
length_named g (o ∷ os) = ap suc (length_named g os)

pub named_here : (g : ℕ) (os : List Operation) (i : ℕ) → place_in (named g os) g i ≡ place (instances_of os) i
named_here g [] i = refl
named_here g (o ∷ os) i =
    ap (λ b. cond (b && eqb o.instance i) 0 (suc (place_in (named g os) g i))) (same_refl g)
    ∙ ap (λ n. cond (eqb o.instance i) 0 (suc n)) (named_here g os i)

pub named_elsewhere : (g k : ℕ) (os : List Operation) (i : ℕ) → eqb g k ≡ false → place_in (named g os) k i ≡ length (named g os)
named_elsewhere g k [] i e = refl
named_elsewhere g k (o ∷ os) i e =
    ap (λ b. cond (b && eqb o.instance i) 0 (suc (place_in (named g os) k i))) e ∙ ap suc (named_elsewhere g k os i e)

pub operations_named : (g : ℕ) (os : List Operation) → operations (named g os) ≡ os
operations_named g [] = refl
operations_named g (o ∷ os) = ap (λ z. o ∷ z) (operations_named g os)

pub operations_both : (xs ys : List Named) → operations (xs ++ ys) ≡ operations xs ++ operations ys
operations_both [] ys = refl
operations_both (o ∷ xs) ys = ap (λ z. o.operation ∷ z) (operations_both xs ys)

pub length_operations : (xs : List Named) → length (operations xs) ≡ length xs
length_operations [] = refl
length_operations (o ∷ xs) = ap suc (length_operations xs)

pub has_in_or : (h : List Named) (g i : ℕ) → HasIn h g i ⊎ (HasIn h g i → ⊥)
has_in_or h g i = elim (cases_lt (place_in h g i) (length h)) [ inl l ↦ inl l | inr n ↦ inr (λ l. omega arith) ]

pub place_in_both : (xs ys : List Named) (g i : ℕ) → HasIn xs g i → place_in (xs ++ ys) g i ≡ place_in xs g i
place_in_both [] ys g i h = absurd (omega arith)
place_in_both (o ∷ xs) ys g i h = go (eqb o.generation g && eqb o.operation.instance i) h (place_in_both xs ys g i)
  where
    go : (b : Bool) → cond b 0 (suc (place_in xs g i)) < suc (length xs) → (HasIn xs g i → place_in (xs ++ ys) g i ≡ place_in xs g i) → cond b 0 (suc (place_in (xs ++ ys) g i)) ≡ cond b 0 (suc (place_in xs g i))
    go true l rec = refl
    go false l rec = ap suc (rec (omega arith))

pub place_in_second : (xs ys : List Named) (g i : ℕ) → (HasIn xs g i → ⊥) → place_in (xs ++ ys) g i ≡ length xs + place_in ys g i
place_in_second [] ys g i n = omega arith
place_in_second (o ∷ xs) ys g i n = go (eqb o.generation g && eqb o.operation.instance i) n (place_in_second xs ys g i)
  where
    go : (b : Bool) → (cond b 0 (suc (place_in xs g i)) < suc (length xs) → ⊥) → ((HasIn xs g i → ⊥) → place_in (xs ++ ys) g i ≡ length xs + place_in ys g i) → cond b 0 (suc (place_in (xs ++ ys) g i)) ≡ suc (length xs) + place_in ys g i
    go true l rec = absurd (l (omega arith))
    go false l rec = let r = rec (λ k. l (omega arith)) in omega arith

pub has_in_split : (xs ys : List Named) (g i : ℕ) → HasIn (xs ++ ys) g i → HasIn xs g i ⊎ HasIn ys g i
has_in_split xs ys g i h = elim (has_in_or xs g i) [
  | inl a ↦ inl a
  | inr n ↦ inr (let p = place_in_second xs ys g i n in let l = length-append xs ys in omega arith)
]

pub in_named : (g : ℕ) (os : List Operation) (o : Named) → In o (named g os) → (o.generation ≡ g) × In o.operation os
in_named g [] o k = absurd k
in_named g (p ∷ os) o (inl e) = (sym (ap (λ (x : Named). x.generation) e), inl (ap (λ (x : Named). x.operation) e))
in_named g (p ∷ os) o (inr k) = let r = in_named g os o k in (r.0, inr r.1)

pub named_once : (g : ℕ) (os : List Operation) → Once (instances_of os) → NamedOnce (named g os)
named_once g [] o = tt
named_once g (p ∷ os) o = ((λ h. o.0 (let a = named_here g os p.instance in let b = length_named g os in omega arith)), named_once g os o.1)

pub once_both : (xs ys : List Named) → NamedOnce xs → NamedOnce ys → ((o : Named) → In o xs → HasIn ys o.generation o.operation.instance → ⊥) → NamedOnce (xs ++ ys)
once_both [] ys x y apart = y
once_both (o ∷ xs) ys x y apart = (
  (λ h. elim (has_in_split xs ys o.generation o.operation.instance h) [ inl a ↦ x.0 a | inr b ↦ apart o (inl refl) b ]),
  once_both xs ys x.1 y (λ p k. apart p (inr k)),
)
