-- Paths as stacks.
use Rattle.std.proofs.Common.{◌≡◌, ℕ, ◌+◌, ◌⊎◌, inl, inr, List, [], ◌∷◌, ◌++◌, length, map, reverse, Bool, true, false, cond, ltb, refl, ap, ◌∙◌, arith}
use Rattle.std.proofs.lemmas.Bool.{lt-ltb, le-ltb}
use Rattle.std.proofs.lemmas.List.{length-append, map-append, reverse-append}
use Rattle.ep_base.specs.Places.{place, Has}
use Rattle.ep_rules.proofs.Places.{has_left, has_right, has_split, not_has}
use Rattle.ep_exec.specs.declared.level.Level.{Level}
use Rattle.ep_exec.specs.Walk.{Flat, flat, stack, joined, merged, pooled}

pub stack_push : (ls : List Level) (l : Level) → stack (ls ++ l ∷ []) ≡ flat l ∷ stack ls
stack_push ls l = ap reverse (map-append flat ls (l ∷ [])) ∙ reverse-append (map flat ls) (flat l ∷ [])

-- Both lists, the longer one first.

pub pooled_split : (xs ys : List ℕ) (i : ℕ) → Has (pooled xs ys) i → Has xs i ⊎ Has ys i
pooled_split xs ys i h = go (ltb (length xs) (length ys)) h
  where
    go : (b : Bool) → Has (cond b (ys ++ xs) (xs ++ ys)) i → Has xs i ⊎ Has ys i
    go true k = elim (has_split ys xs i k) [ inl q ↦ inr q | inr q ↦ inl q ]
    go false k = has_split xs ys i k

pub pooled_left : (xs ys : List ℕ) (i : ℕ) → Has xs i → Has (pooled xs ys) i
pooled_left xs ys i h = go (ltb (length xs) (length ys))
  where
    go : (b : Bool) → Has (cond b (ys ++ xs) (xs ++ ys)) i
    go true = has_right ys xs i h
    go false = has_left xs ys i h

pub pooled_right : (xs ys : List ℕ) (i : ℕ) → Has ys i → Has (pooled xs ys) i
pooled_right xs ys i h = go (ltb (length xs) (length ys))
  where
    go : (b : Bool) → Has (cond b (ys ++ xs) (xs ++ ys)) i
    go true = has_left ys xs i h
    go false = has_right xs ys i h

pub pooled_length : (xs ys : List ℕ) → length (pooled xs ys) ≡ length xs + length ys
pooled_length xs ys = go (ltb (length xs) (length ys))
  where
    go : (b : Bool) → length (cond b (ys ++ xs) (xs ++ ys)) ≡ length xs + length ys
    go true = omega (arith, length-append ys xs)
    go false = omega (arith, length-append xs ys)

pub merged_here : (t : Flat) (s : List Flat) (d : ℕ) → Has t.members d → merged t s d ≡ t ∷ s
merged_here t [] d h = refl
merged_here t (b ∷ s) d h = ap (λ x. cond x (t ∷ b ∷ s) (merged (joined b t) s d)) (lt-ltb (place t.members d) (length t.members) h)

pub merged_down : (t b : Flat) (s : List Flat) (d : ℕ) → (Has t.members d → ⊥) → merged t (b ∷ s) d ≡ merged (joined b t) s d
merged_down t b s d n = ap (λ x. cond x (t ∷ b ∷ s) (merged (joined b t) s d)) (le-ltb (place t.members d) (length t.members) (let e = not_has t.members d n in omega arith))

-- the top is taken off
pub stack_pop : (ls rest : List Level) (l : Level) → ls ≡ rest ++ l ∷ [] → stack ls ≡ flat l ∷ stack rest
stack_pop ls rest l e = ap stack e ∙ stack_push rest l
