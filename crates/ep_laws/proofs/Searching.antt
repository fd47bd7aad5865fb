-- Looking through a list of instances, and counting in it.
use Rattle.std.proofs.Common.{◌≡◌, ℕ, ◌+◌, ◌≤◌, ◌⊎◌, inl, inr, Bool, true, false, cond, List, [], ◌∷◌, refl, sym, subst, arith}
use Rattle.std.proofs.lemmas.Bool.{false≢true}
use Rattle.ep_base.specs.Places.{Has}
use Rattle.ep_base.proofs.Places.{Has-first}
use Rattle.ep_rules.proofs.Places.{has_cons, has_tail}

-- one that passes is found, or none passes
pub one_or_none : (p : ℕ → Bool) (xs : List ℕ) → ((j : ℕ) × Has xs j × (p j ≡ true)) ⊎ ((j : ℕ) → Has xs j → p j ≡ false)
one_or_none p [] = inr (λ j h. absurd (omega arith))
one_or_none p (x ∷ xs) = go (p x) refl (one_or_none p xs)
  where
    go : (b : Bool) → p x ≡ b → ((j : ℕ) × Has xs j × (p j ≡ true)) ⊎ ((j : ℕ) → Has xs j → p j ≡ false) →
        ((j : ℕ) × Has (x ∷ xs) j × (p j ≡ true)) ⊎ ((j : ℕ) → Has (x ∷ xs) j → p j ≡ false)
    go true e rec = inl (x, Has-first x xs, e)
    go false e (inl t) = inl (t.0, has_tail x t.0 xs t.1, t.2)
    go false e (inr none) = inr (λ j h. elim (has_cons x j xs h) [ inl is ↦ subst (λ k. p k ≡ false) is e | inr there ↦ none j there ])

-- how many pass
abbrev pub passing : (ℕ → Bool) → List ℕ → ℕ
passing p [] = 0
passing p (x ∷ xs) = cond (p x) 1 0 + passing p xs

fewer_step : (a b : Bool) (m n : ℕ) → (a ≡ true → b ≡ true) → m ≤ n → cond a 1 0 + m ≤ cond b 1 0 + n
fewer_step true true m n i h = omega arith
fewer_step true false m n i h = absurd (false≢true (i refl))
fewer_step false true m n i h = omega arith
fewer_step false false m n i h = omega arith

pub fewer : (p q : ℕ → Bool) (xs : List ℕ) → ((j : ℕ) → Has xs j → p j ≡ true → q j ≡ true) → passing p xs ≤ passing q xs
fewer p q [] up = omega arith
fewer p q (x ∷ xs) up = fewer_step (p x) (q x) (passing p xs) (passing q xs) (up x (Has-first x xs)) (fewer p q xs (λ j h. up j (has_tail x j xs h)))

less_here : (a b : Bool) (m n : ℕ) → a ≡ false → b ≡ true → m ≤ n → cond a 1 0 + m + 1 ≤ cond b 1 0 + n
less_here false true m n ea eb h = omega arith
less_here true b m n ea eb h = absurd (false≢true (sym ea))
less_here false false m n ea eb h = absurd (false≢true eb)

less_there : (a b : Bool) (m n : ℕ) → (a ≡ true → b ≡ true) → m + 1 ≤ n → cond a 1 0 + m + 1 ≤ cond b 1 0 + n
less_there true true m n i h = omega arith
less_there true false m n i h = absurd (false≢true (i refl))
less_there false true m n i h = omega arith
less_there false false m n i h = omega arith

-- fewer, as z passes no more
pub less : (p q : ℕ → Bool) (xs : List ℕ) → ((j : ℕ) → Has xs j → p j ≡ true → q j ≡ true) → (z : ℕ) → Has xs z → p z ≡ false → q z ≡ true → passing p xs + 1 ≤ passing q xs
less p q [] up z h pz qz = absurd (omega arith)
less p q (x ∷ xs) up z h pz qz = elim (has_cons x z xs h) [
  | inl is ↦ less_here (p x) (q x) (passing p xs) (passing q xs) (subst (λ k. p k ≡ false) (sym is) pz) (subst (λ k. q k ≡ true) (sym is) qz) (fewer p q xs (λ j h. up j (has_tail x j xs h)))
  | inr there ↦ less_there (p x) (q x) (passing p xs) (passing q xs) (up x (Has-first x xs)) (less p q xs (λ j h. up j (has_tail x j xs h)) z there pz qz)
]
