-- Fronts of lists, up to the first number that passes a test.
use Rattle.std.proofs.Common.{◌≡◌, ℕ, zero, suc, ◌<◌, ◌≤◌, inl, inr, Bool, true, false, cond, List, [], ◌∷◌, ◌++◌, length, take, map, refl, sym, ap, subst, ◌∙◌, arith}
use Rattle.std.proofs.lemmas.Bool.{false≢true}
use Rattle.ep_base.specs.Commands.{Command}
use Rattle.ep_base.specs.Places.{place, Has}
use Rattle.ep_base.proofs.Places.{Has-first, Has-tail}
use Rattle.ep_rules.specs.Operations.{Operation, instances_of, commands_of}
use Rattle.ep_rules.specs.Worlds.{In}
use Rattle.ep_rules.proofs.Places.{place_cons, place_head, Once}
use Rattle.ep_rules.proofs.RunHistories.{AreOf}

-- how many stand before the first that passes
abbrev pub before : (ℕ → Bool) → List ℕ → ℕ
before p [] = 0
before p (x ∷ xs) = cond (p x) 0 (suc (before p xs))

pub before_le : (p : ℕ → Bool) (xs : List ℕ) → before p xs ≤ length xs
before_le p [] = omega arith
before_le p (x ∷ xs) = go (p x) (before_le p xs)
  where
    go : (b : Bool) → before p xs ≤ length xs → cond b 0 (suc (before p xs)) ≤ suc (length xs)
    go true r = omega arith
    go false r = omega arith

-- none of them passes
pub before_none : (p : ℕ → Bool) (xs : List ℕ) (u : ℕ) → place xs u < before p xs → p u ≡ false
before_none p [] u lt = absurd (omega arith)
before_none p (x ∷ xs) u lt = go (p x) refl lt (before_none p xs u)
  where
    go : (b : Bool) → p x ≡ b → place (x ∷ xs) u < cond b 0 (suc (before p xs)) → (place xs u < before p xs → p u ≡ false) → p u ≡ false
    go true e l r = absurd (omega arith)
    go false e l r = elim (place_cons x u xs) [ inl q ↦ subst (λ y. p y ≡ false) q.0 e | inr q ↦ r (omega arith) ]

-- the first that passes
pub record First (p : ℕ → Bool) (xs : List ℕ) : Type 0 where
  pub at : ℕ
  pub has : Has xs at
  pub passes : p at ≡ true
  pub stands : place xs at ≡ before p xs

pub first_at : (p : ℕ → Bool) (xs : List ℕ) → before p xs < length xs → First p xs
first_at p [] lt = absurd (omega arith)
first_at p (x ∷ xs) lt = go (p x) refl lt (first_at p xs)
  where
    go : (b : Bool) → p x ≡ b → cond b 0 (suc (before p xs)) < suc (length xs) → (before p xs < length xs → First p xs) → First p (x ∷ xs)
    go true e l r = record { at = x; has = Has-first x xs; passes = e; stands = place_head x xs ∙ sym (ap (λ b. cond b 0 (suc (before p xs))) e) }
    go false e l r =
        let t = r (omega arith) in
        record {
          at = t.at;
          has = Has-tail x xs t.at t.has;
          passes = t.passes;
          stands = elim (place_cons x t.at xs) [
            | inl q ↦ absurd (false≢true (sym e ∙ ap p q.0 ∙ t.passes))
            | inr q ↦ q ∙ ap suc t.stands ∙ sym (ap (λ b. cond b 0 (suc (before p xs))) e)
          ];
        }

-- a part of a list up to one point, and from there to another
pub between : {X : Type 0} (a n : ℕ) (xs : List X) → a ≤ n → (mid : List X) × (take a xs ++ mid ≡ take n xs)
between zero n xs le = (take n xs, refl)
between (suc a) zero xs le = absurd (omega arith)
between (suc a) (suc n) [] le = ([], refl)
between (suc a) (suc n) (x ∷ xs) le = let t = between a n xs (omega arith) in (t.0, ap (λ ys. x ∷ ys) t.1)

-- Operations by their instances.

pub commands_front : (c : ℕ → Command) (n : ℕ) (h : List Operation) → AreOf c h → commands_of (take n h) ≡ map c (take n (instances_of h))
commands_front c zero h of = refl
commands_front c (suc n) [] of = refl
commands_front c (suc n) (o ∷ h) of = ap (λ d. d ∷ commands_of (take n h)) of.0 ∙ ap (λ ds. c o.instance ∷ ds) (commands_front c n h of.1)

pub as_many : (h : List Operation) → length (instances_of h) ≡ length h
as_many [] = refl
as_many (o ∷ h) = ap suc (as_many h)

pub operation_of : (h : List Operation) (i : ℕ) → Has (instances_of h) i → (o : Operation) × In o h × (o.instance ≡ i)
operation_of [] i k = absurd (omega arith)
operation_of (o ∷ h) i k = elim (place_cons o.instance i (instances_of h)) [
  | inl q ↦ (o, inl refl, q.0)
  | inr q ↦ (let t = operation_of h i (omega arith) in (t.0, inr t.1, t.2))
]

-- the number at a place of a list
pub at_place : (xs : List ℕ) (n : ℕ) → Once xs → n < length xs → (i : ℕ) × Has xs i × (place xs i ≡ n)
at_place [] n o lt = absurd (omega arith)
at_place (x ∷ xs) zero o lt = (x, Has-first x xs, place_head x xs)
at_place (x ∷ xs) (suc n) o lt =
    let t = at_place xs n o.1 (omega arith) in (
      t.0,
      Has-tail x xs t.0 t.1,
      elim (place_cons x t.0 xs) [ inl q ↦ absurd (o.0 (subst (λ y. Has xs y) (sym q.0) t.1)) | inr q ↦ (let e = t.2 in omega arith) ],
    )
