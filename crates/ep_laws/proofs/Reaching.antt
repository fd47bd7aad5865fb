-- What is reached inside a list of instances can be found.
use Rattle.std.proofs.Common.{◌≡◌, ℕ, ◌⊎◌, inl, inr, Bool, true, false, ◌&&◌, ◌||◌, eqb, ltb, List, [], ◌∷◌, length, Option, Some, None, refl, sym, ap, subst, ◌∙◌, arith}
use Rattle.std.proofs.lemmas.Bool.{and_parts, and_from, or_cases, or_left, or_right, eqb-true, eq-eqb, ltb-true, lt-ltb, false≢true}
use Rattle.ep_base.specs.declared.attrs.Attrs.{Attrs}
use Rattle.ep_base.specs.Places.{place, Has}
use Rattle.ep_rules.specs.Graph.{Graph, Reaches}
use Rattle.ep_rules.specs.Graph.Reaches.{itself, onward}
use Rattle.ep_rules.proofs.Places.{has_cons}
use Rattle.ep_rules.proofs.Reaching.{reach_trans}

abbrev pub depends : Option Attrs → ℕ → Bool
depends None k = false
depends (Some a) k = ltb (place a.deps k) (length a.deps)

-- there is a path from i to j on which all between the two are among these
abbrev pub through : Graph → List ℕ → ℕ → ℕ → Bool
through g [] i j = eqb i j || depends (g i) j
through g (k ∷ ks) i j = through g ks i j || (through g ks i k && through g ks k j)

-- What is found is reached.

along : (g : Graph) (i j : ℕ) (o : Option Attrs) → g i ≡ o → depends o j ≡ true → Reaches g i j
along g i j None e d = absurd (false≢true d)
along g i j (Some a) e d = onward a itself e (ltb-true _ _ d)

found_base : (g : Graph) (i j : ℕ) → (eqb i j || depends (g i) j) ≡ true → Reaches g i j
found_base g i j e = elim (or_cases (eqb i j) (depends (g i) j) e) [
  | inl t ↦ subst (λ k. Reaches g i k) (eqb-true i j t) itself
  | inr t ↦ along g i j (g i) refl t
]

pub found : (g : Graph) (ks : List ℕ) (i j : ℕ) → through g ks i j ≡ true → Reaches g i j
found g [] i j e = found_base g i j e
found g (k ∷ ks) i j e = elim (or_cases (through g ks i j) _ e) [
  | inl t ↦ found g ks i j t
  | inr t ↦ (let p = and_parts (through g ks i k) (through g ks k j) t in reach_trans (found g ks i k p.0) (found g ks k j p.1))
]

-- Two paths that meet at one of the list are one path.

module _ (g : Graph) (c : ℕ) (ks : List ℕ) where
  to_it : (a : ℕ) → through g (c ∷ ks) a c ≡ true → through g ks a c ≡ true
  to_it a e = elim (or_cases (through g ks a c) _ e) [ inl t ↦ t | inr t ↦ (and_parts (through g ks a c) (through g ks c c) t).0 ]

  from_it : (b : ℕ) → through g (c ∷ ks) c b ≡ true → through g ks c b ≡ true
  from_it b e = elim (or_cases (through g ks c b) _ e) [ inl t ↦ t | inr t ↦ (and_parts (through g ks c c) (through g ks c b) t).1 ]

  directly : (a b : ℕ) → through g ks a b ≡ true → through g (c ∷ ks) a b ≡ true
  directly a b e = or_left _ _ e

  over_it : (a b : ℕ) → through g ks a c ≡ true → through g ks c b ≡ true → through g (c ∷ ks) a b ≡ true
  over_it a b p q = or_right _ _ (and_from _ _ p q)

pub joined : (g : Graph) (ks : List ℕ) (j : ℕ) → Has ks j → (a b : ℕ) → through g ks a j ≡ true → through g ks j b ≡ true → through g ks a b ≡ true
joined g [] j h a b p q = absurd (omega arith)
joined g (c ∷ ks) j h a b p q = elim (has_cons c j ks h) [
  | inl is ↦ over_it g c ks a b
      (to_it g c ks a (subst (λ z. through g (c ∷ ks) a z ≡ true) (sym is) p))
      (from_it g c ks b (subst (λ z. through g (c ∷ ks) z b ≡ true) (sym is) q))
  | inr there ↦ go (joined g ks j there) (or_cases (through g ks a j) _ p) (or_cases (through g ks j b) _ q)
]
  where
    go : ((x y : ℕ) → through g ks x j ≡ true → through g ks j y ≡ true → through g ks x y ≡ true) →
        (through g ks a j ≡ true) ⊎ ((through g ks a c && through g ks c j) ≡ true) → (through g ks j b ≡ true) ⊎ ((through g ks j c && through g ks c b) ≡ true) → through g (c ∷ ks) a b ≡ true
    go rec (inl u) (inl v) = directly g c ks a b (rec a b u v)
    go rec (inl u) (inr v) = let w = and_parts (through g ks j c) (through g ks c b) v in over_it g c ks a b (rec a c u w.0) w.1
    go rec (inr u) (inl v) = let w = and_parts (through g ks a c) (through g ks c j) u in over_it g c ks a b w.0 (rec c b w.1 v)
    go rec (inr u) (inr v) = over_it g c ks a b (and_parts (through g ks a c) (through g ks c j) u).0 (and_parts (through g ks j c) (through g ks c b) v).1

-- So what is reached is found, where the list has all of it.

same_found : (g : Graph) (ks : List ℕ) (i : ℕ) → through g ks i i ≡ true
same_found g [] i = or_left _ _ (eq-eqb i i refl)
same_found g (k ∷ ks) i = or_left _ _ (same_found g ks i)

next_found : (g : Graph) (ks : List ℕ) (k j : ℕ) (a : Attrs) → g k ≡ Some a → Has a.deps j → through g ks k j ≡ true
next_found g [] k j a e h = or_right _ _ (ap (λ o. depends o j) e ∙ lt-ltb _ _ h)
next_found g (c ∷ ks) k j a e h = or_left _ _ (next_found g ks k j a e h)

pub finds : (g : Graph) (ks : List ℕ) (i j : ℕ) → ((k : ℕ) → Reaches g i k → Has ks k) → Reaches g i j → through g ks i j ≡ true
finds g ks i j all itself = same_found g ks i
finds g ks i j all (onward {j = k} a r is h) = joined g ks k (all k r) i j (finds g ks i k all r) (next_found g ks k j a is h)
