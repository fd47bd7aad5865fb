-- Instances in lists, and what a join of attributes contains.
use Rattle.std.proofs.Common.{◌≡◌, ℕ, zero, suc, ◌<◌, Bool, true, false, ◌&&◌, ◌||◌, eqb, ◌⊎◌, Option, Some, None, List, [], ◌∷◌, refl, sym, ap, subst, ◌∙◌, inl, inr, arith}
use Rattle.std.proofs.lemmas.Bool.{and_parts, and_from, or_cases, or_left, or_right, eqb-true, eq-eqb, cases_order}
use Rattle.ep_base.proofs.Members.{Has-union}
use Rattle.ep_base.proofs.Places.{Has-empty, Has-cons_cases, Has-head, Has-tail}
use Rattle.ep_base.specs.Attributes.{join}
use Rattle.ep_base.specs.Deps.{union}
use Rattle.ep_base.specs.declared.attrs.Attrs.{Attrs}
use Rattle.ep_rules.specs.Answers.{Answers, answer}
use Rattle.ep_base.specs.Places.{Has}
use Rattle.ep_rules.specs.Phases.{join_some, join_all}

-- is j in the list
abbrev pub has : ℕ → List ℕ → Bool
has j [] = false
has j (x ∷ xs) = eqb j x || has j xs

-- is each of these in the list
abbrev pub within : List ℕ → List ℕ → Bool
within ys [] = true
within ys (x ∷ xs) = has x ys && within ys xs

pub within_has : (ys xs : List ℕ) (j : ℕ) → within ys xs ≡ true → has j xs ≡ true → has j ys ≡ true
within_has ys [] j w e = absurd (cc)
within_has ys (x ∷ xs) j w e =
    let t = and_parts _ _ w in
    elim (or_cases _ _ e) [ inl i ↦ subst (λ k. has k ys ≡ true) (sym (eqb-true j x i)) t.0 | inr m ↦ within_has ys xs j t.1 m ]

pub has_within : (ys xs : List ℕ) → ((j : ℕ) → has j xs ≡ true → has j ys ≡ true) → within ys xs ≡ true
has_within ys [] h = refl
has_within ys (x ∷ xs) h = and_from _ _ (h x (or_left _ _ (eq-eqb x x refl))) (has_within ys xs (λ j e. h j (or_right _ _ e)))

pub within_self : (xs : List ℕ) → within xs xs ≡ true
within_self xs = has_within xs xs (λ j e. e)

pub within_trans : (zs ys xs : List ℕ) → within zs ys ≡ true → within ys xs ≡ true → within zs xs ≡ true
within_trans zs ys xs a b = has_within zs xs (λ j e. within_has zs ys j a (within_has ys xs j b e))

pub has_first : (j y : ℕ) (ys : List ℕ) → eqb j y ≡ true → has j (y ∷ ys) ≡ true
has_first j y ys e = or_left (eqb j y) (has j ys) e

pub has_later : (j y : ℕ) (ys : List ℕ) → has j ys ≡ true → has j (y ∷ ys) ≡ true
has_later j y ys e = or_right (eqb j y) (has j ys) e

pub has_cases : (j y : ℕ) (ys : List ℕ) → has j (y ∷ ys) ≡ true → (eqb j y ≡ true) ⊎ (has j ys ≡ true)
has_cases j y ys e = or_cases (eqb j y) (has j ys) e

-- what the test finds has a place
pub has_place : (xs : List ℕ) (j : ℕ) → has j xs ≡ true → Has xs j
has_place [] j e = absurd (cc)
has_place (x ∷ xs) j e = elim (has_cases j x xs e) [ inl i ↦ Has-head x xs j (sym (eqb-true j x i)) | inr m ↦ Has-tail x xs j (has_place xs j m) ]

-- and what has a place is found
place_has : (xs : List ℕ) (j : ℕ) → Has xs j → has j xs ≡ true
place_has [] j h = absurd (Has-empty j h)
place_has (x ∷ xs) j h = elim (Has-cons_cases x xs j h) [ inl i ↦ has_first j x xs (eq-eqb j x (sym i)) | inr m ↦ has_later j x xs (place_has xs j m) ]

-- a member of the one list, or of the other, is in their union
has_union : (j : ℕ) (is js : List ℕ) → (has j is ≡ true) ⊎ (has j js ≡ true) → has j (union is js) ≡ true
has_union j is js e = place_has (union is js) j (Has-union is js j (elim e [ inl m ↦ inl (has_place is j m) | inr m ↦ inr (has_place js j m) ]))

pub within_join_left : (a b : Attrs) → within (join a b).deps a.deps ≡ true
within_join_left a b = has_within (join a b).deps a.deps (λ j e. has_union j a.deps b.deps (inl e))

pub within_join_right : (a b : Attrs) → within (join a b).deps b.deps ≡ true
within_join_right a b = has_within (join a b).deps b.deps (λ j e. has_union j a.deps b.deps (inr e))

join_some_right : (o : Option Attrs) (a : Attrs) → within (join_some o a).deps a.deps ≡ true
join_some_right None a = within_self a.deps
join_some_right (Some b) a = within_join_right b a

pub join_all_own : (n : ℕ) (answers : Answers Attrs) (a : Attrs) → within (join_all n answers a).deps a.deps ≡ true
join_all_own zero answers a = within_self a.deps
join_all_own (suc n) answers a = within_trans (join_all (suc n) answers a).deps (join_all n answers a).deps a.deps (join_some_right (answer answers n) (join_all n answers a)) (join_all_own n answers a)

join_some_left : (o : Option Attrs) (a b : Attrs) → o ≡ Some b → within (join_some o a).deps b.deps ≡ true
join_some_left None a b e = absurd (cc)
join_some_left (Some c) a b e = let i : c ≡ b = cc in subst (λ (d : Attrs). within (join c a).deps d.deps ≡ true) i (within_join_left c a)

pub join_all_each : (n : ℕ) (answers : Answers Attrs) (a : Attrs) (k : ℕ) (b : Attrs) → k < n → answer answers k ≡ Some b → within (join_all n answers a).deps b.deps ≡ true
join_all_each zero answers a k b lt e = absurd (omega arith)
join_all_each (suc n) answers a k b lt e = elim (cases_order k n) [
  | inl i ↦ join_some_left (answer answers n) (join_all n answers a) b (ap (answer answers) (sym i) ∙ e)
  | inr (inl less) ↦ within_trans (join_all (suc n) answers a).deps (join_all n answers a).deps b.deps (join_some_right (answer answers n) (join_all n answers a)) (join_all_each n answers a k b less e)
  | inr (inr more) ↦ absurd (omega arith)
]
