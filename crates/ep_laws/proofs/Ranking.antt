-- Those of a list that pass, in the order of ranks.
use Rattle.std.proofs.Common.{◌≡◌, ◌≢◌, ℕ, ◌<◌, ◌⊎◌, inl, inr, Bool, true, false, cond, ◌&&◌, ◌||◌, eqb, ltb, List, [], ◌∷◌, refl, sym, subst, ◌∙◌, arith}
use Rattle.std.proofs.lemmas.Bool.{and_parts, and_from, or_cases, or_left, or_right, eqb-true, eq-eqb, ltb-true, lt-ltb, false≢true}
use Rattle.ep_base.specs.Places.{Has}
use Rattle.ep_base.proofs.Places.{Has-head}
use Rattle.ep_rules.specs.Graph.{Graph}
use Rattle.ep_rules.specs.Order.{seq_at, Ranks, Rises}
use Rattle.ep_rules.proofs.Places.{has_cons, has_tail}

-- Ranks are an order.

abbrev pub ranks : Graph → ℕ → ℕ → Bool
ranks g i j = ltb (seq_at (g i)) (seq_at (g j)) || (eqb (seq_at (g i)) (seq_at (g j)) && ltb i j)

ranks_is : (g : Graph) (i j : ℕ) → ranks g i j ≡ true → Ranks g i j
ranks_is g i j e = elim (or_cases (ltb (seq_at (g i)) (seq_at (g j))) _ e) [
  | inl t ↦ inl (ltb-true _ _ t)
  | inr t ↦ (let p = and_parts (eqb (seq_at (g i)) (seq_at (g j))) (ltb i j) t in inr (eqb-true _ _ p.0, ltb-true _ _ p.1))
]

ranks_reported : (g : Graph) (i j : ℕ) → Ranks g i j → ranks g i j ≡ true
ranks_reported g i j (inl t) = or_left _ _ (lt-ltb _ _ t)
ranks_reported g i j (inr t) = or_right _ _ (and_from _ _ (eq-eqb _ _ t.0) (lt-ltb _ _ t.1))

total : (a b i j : ℕ) → i ≢ j → ((a < b) ⊎ ((a ≡ b) × (i < j))) ⊎ ((b < a) ⊎ ((b ≡ a) × (j < i)))
total a b i j ne = grind arith

ranks_back : (g : Graph) (i j : ℕ) → i ≢ j → ranks g i j ≡ false → Ranks g j i
ranks_back g i j ne e = elim (total (seq_at (g i)) (seq_at (g j)) i j ne) [
  | inl r ↦ absurd (false≢true (sym e ∙ ranks_reported g i j r))
  | inr r ↦ r
]

passed_on : (a b c i j k : ℕ) → (a < b) ⊎ ((a ≡ b) × (i < j)) → (b < c) ⊎ ((b ≡ c) × (j < k)) → (a < c) ⊎ ((a ≡ c) × (i < k))
passed_on a b c i j k p q = grind arith

ranks_trans : (g : Graph) (i j k : ℕ) → Ranks g i j → Ranks g j k → Ranks g i k
ranks_trans g i j k p q = passed_on (seq_at (g i)) (seq_at (g j)) (seq_at (g k)) i j k p q

-- One more in a rising list.

abbrev pub put_in : Graph → ℕ → List ℕ → List ℕ
put_in g x [] = x ∷ []
put_in g x (y ∷ ys) = cond (eqb x y) (y ∷ ys) (cond (ranks g x y) (x ∷ y ∷ ys) (y ∷ put_in g x ys))

put_has : (g : Graph) (x : ℕ) (ys : List ℕ) (j : ℕ) → (x ≡ j) ⊎ Has ys j → Has (put_in g x ys) j
put_has g x [] j (inl e) = Has-head x [] j e
put_has g x [] j (inr h) = absurd (omega arith)
put_has g x (y ∷ ys) j t = go (eqb x y) (ranks g x y) refl t (put_has g x ys j)
  where
    behind : (x ≡ j) ⊎ Has (y ∷ ys) j → ((x ≡ j) ⊎ Has ys j → Has (put_in g x ys) j) → Has (y ∷ put_in g x ys) j
    behind (inl e) rec = has_tail y j (put_in g x ys) (rec (inl e))
    behind (inr h) rec = elim (has_cons y j ys h) [ inl e ↦ Has-head y (put_in g x ys) j e | inr k ↦ has_tail y j (put_in g x ys) (rec (inr k)) ]

    go : (a b : Bool) → eqb x y ≡ a → (x ≡ j) ⊎ Has (y ∷ ys) j → ((x ≡ j) ⊎ Has ys j → Has (put_in g x ys) j) → Has (cond a (y ∷ ys) (cond b (x ∷ y ∷ ys) (y ∷ put_in g x ys))) j
    go true b e (inl is) rec = Has-head y ys j (sym (eqb-true x y e) ∙ is)
    go true b e (inr h) rec = h
    go false true e (inl is) rec = Has-head x (y ∷ ys) j is
    go false true e (inr h) rec = has_tail x j (y ∷ ys) h
    go false false e t rec = behind t rec

put_only : (g : Graph) (x : ℕ) (ys : List ℕ) (j : ℕ) → Has (put_in g x ys) j → (x ≡ j) ⊎ Has ys j
put_only g x [] j h = has_cons x j [] h
put_only g x (y ∷ ys) j h = go (eqb x y) (ranks g x y) h (put_only g x ys j)
  where
    go : (a b : Bool) → Has (cond a (y ∷ ys) (cond b (x ∷ y ∷ ys) (y ∷ put_in g x ys))) j → (Has (put_in g x ys) j → (x ≡ j) ⊎ Has ys j) → (x ≡ j) ⊎ Has (y ∷ ys) j
    go true b h rec = inr h
    go false true h rec = has_cons x j (y ∷ ys) h
    go false false h rec = elim (has_cons y j (put_in g x ys) h) [
      | inl e ↦ inr (Has-head y ys j e)
      | inr k ↦ elim (rec k) [ inl e ↦ inl e | inr m ↦ inr (has_tail y j ys m) ]
    ]

put_rises : (g : Graph) (x : ℕ) (ys : List ℕ) → Rises g ys → Rises g (put_in g x ys)
put_rises g x [] r = (λ j h. absurd (omega arith), tt)
put_rises g x (y ∷ ys) r = go (eqb x y) (ranks g x y) refl refl (put_rises g x ys r.1)
  where
    go : (a b : Bool) → eqb x y ≡ a → ranks g x y ≡ b → Rises g (put_in g x ys) → Rises g (cond a (y ∷ ys) (cond b (x ∷ y ∷ ys) (y ∷ put_in g x ys)))
    go true b ea eb rec = r
    go false true ea eb rec =
        (λ j h. elim (has_cons y j ys h) [ inl e ↦ subst (λ k. Ranks g x k) e (ranks_is g x y eb) | inr k ↦ ranks_trans g x y j (ranks_is g x y eb) (r.0 j k) ], r)
    go false false ea eb rec =
        (λ j h. elim (put_only g x ys j h) [ inl e ↦ subst (λ k. Ranks g y k) e (ranks_back g x y (λ is. absurd (false≢true (sym ea ∙ eq-eqb x y is))) eb) | inr k ↦ r.0 j k ], rec)

-- The list.

abbrev pub ranked : Graph → (ℕ → Bool) → List ℕ → List ℕ
ranked g p [] = []
ranked g p (x ∷ xs) = cond (p x) (put_in g x (ranked g p xs)) (ranked g p xs)

pub ranked_rises : (g : Graph) (p : ℕ → Bool) (xs : List ℕ) → Rises g (ranked g p xs)
ranked_rises g p [] = tt
ranked_rises g p (x ∷ xs) = go (p x) (ranked_rises g p xs)
  where
    go : (b : Bool) → Rises g (ranked g p xs) → Rises g (cond b (put_in g x (ranked g p xs)) (ranked g p xs))
    go true rec = put_rises g x (ranked g p xs) rec
    go false rec = rec

pub ranked_only : (g : Graph) (p : ℕ → Bool) (xs : List ℕ) (j : ℕ) → Has (ranked g p xs) j → p j ≡ true
ranked_only g p [] j h = absurd (omega arith)
ranked_only g p (x ∷ xs) j h = go (p x) refl h (ranked_only g p xs j)
  where
    go : (b : Bool) → p x ≡ b → Has (cond b (put_in g x (ranked g p xs)) (ranked g p xs)) j → (Has (ranked g p xs) j → p j ≡ true) → p j ≡ true
    go true e h rec = elim (put_only g x (ranked g p xs) j h) [ inl is ↦ subst (λ k. p k ≡ true) is e | inr k ↦ rec k ]
    go false e h rec = rec h

pub ranked_has : (g : Graph) (p : ℕ → Bool) (xs : List ℕ) (j : ℕ) → Has xs j → p j ≡ true → Has (ranked g p xs) j
ranked_has g p [] j h t = absurd (omega arith)
ranked_has g p (x ∷ xs) j h t = go (p x) refl (has_cons x j xs h) (ranked_has g p xs j)
  where
    go : (b : Bool) → p x ≡ b → (x ≡ j) ⊎ Has xs j → (Has xs j → p j ≡ true → Has (ranked g p xs) j) → Has (cond b (put_in g x (ranked g p xs)) (ranked g p xs)) j
    go true e (inl is) rec = put_has g x (ranked g p xs) j (inl is)
    go true e (inr k) rec = put_has g x (ranked g p xs) j (inr (rec k t))
    go false e (inl is) rec = absurd (false≢true (sym e ∙ subst (λ k. p k ≡ true) (sym is) t))
    go false e (inr k) rec = rec k t
