-- How many instances are left, and single ones.
use Rattle.std.proofs.Common.{ℕ, zero, suc, ◌<◌, ◌≤◌, ◌⊎◌, inl, inr, List, [], ◌∷◌, length, get_or, Bool, cond, ltb, sym, subst, arith}
use Rattle.std.proofs.lemmas.Bool.{cases_Bool, lt-ltb, le-ltb}
use Rattle.ep_base.specs.Places.{place, Has}
use Rattle.ep_rules.proofs.Places.{place_cons, place_head, has_or, not_has, has_cons}

-- an instance's place is no later than where it stands
pub place_at : (xs : List ℕ) (n : ℕ) (d : ℕ) → n < length xs → place xs (get_or xs n d) ≤ n
place_at [] n d h = absurd (omega arith)
place_at (x ∷ xs) zero d h = let e = place_head x xs in omega arith
place_at (x ∷ xs) (suc n) d h = let r = place_at xs n d (omega arith) in let c = place_cons x (get_or xs n d) xs in omega arith

pub single_has : (d : ℕ) → Has (d ∷ []) d
single_has d = let e = place_head d [] in omega arith

-- how many of the universe are not found
abbrev pub is_left : List ℕ → ℕ → Bool
is_left xs i = ltb (place xs i) (length xs)

abbrev pub left_count : List ℕ → List ℕ → ℕ
left_count xs [] = 0
left_count xs (u ∷ us) = cond (ltb (place xs u) (length xs)) (left_count xs us) (suc (left_count xs us))

-- a list that has all of another leaves no more
pub left_fewer : (xs ys us : List ℕ) → ((u : ℕ) → Has xs u → Has ys u) → left_count ys us ≤ left_count xs us
left_fewer xs ys [] sub = omega arith
left_fewer xs ys (u ∷ us) sub = go (has_or xs u) (left_fewer xs ys us sub)
  where
    go : Has xs u ⊎ (Has xs u → ⊥) → left_count ys us ≤ left_count xs us → left_count ys (u ∷ us) ≤ left_count xs (u ∷ us)
    go (inl h) r = rw (lt-ltb (place xs u) (length xs) h, lt-ltb (place ys u) (length ys) (sub u h)) r
    go (inr n) r = rw (le-ltb (place xs u) (length xs) (let e = not_has xs u n in omega arith)) (elim (cases_Bool (ltb (place ys u) (length ys))) [ inl e ↦ rw e (omega arith) | inr e ↦ rw e (omega arith) ])

-- and fewer, where it has one more
pub left_falls : (xs ys us : List ℕ) (d : ℕ) → ((u : ℕ) → Has xs u → Has ys u) → Has us d → (Has xs d → ⊥) → Has ys d → left_count ys us < left_count xs us
left_falls xs ys [] d sub h n y = absurd (omega arith)
left_falls xs ys (u ∷ us) d sub h n y = elim (has_cons u d us h) [
  | inl e ↦ subst (λ z. left_count ys (z ∷ us) < left_count xs (z ∷ us)) (sym e)
      (rw (le-ltb (place xs d) (length xs) (let q = not_has xs d n in omega arith), lt-ltb (place ys d) (length ys) y)
      (let r = left_fewer xs ys us sub in omega arith))
  | inr k ↦ go (has_or xs u) (left_falls xs ys us d sub k n y)
]
  where
    go : Has xs u ⊎ (Has xs u → ⊥) → left_count ys us < left_count xs us → left_count ys (u ∷ us) < left_count xs (u ∷ us)
    go (inl h) r = rw (lt-ltb (place xs u) (length xs) h, lt-ltb (place ys u) (length ys) (sub u h)) r
    go (inr n) r = rw (le-ltb (place xs u) (length xs) (let e = not_has xs u n in omega arith)) (elim (cases_Bool (ltb (place ys u) (length ys))) [ inl e ↦ rw e (omega arith) | inr e ↦ rw e (omega arith) ])
