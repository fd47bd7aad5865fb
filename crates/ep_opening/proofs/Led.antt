-- The members of a set, in rising order: those of one leader after the other.
use Rattle.std.proofs.Common.{◌≡◌, ℕ, suc, ◌+◌, ◌<◌, inl, inr, List, [], ◌∷◌, ◌++◌, sym, subst, arith}
use Rattle.std.proofs.lemmas.Bool.{cases_order}
use Rattle.ep_base.specs.Deps.{IsRising}
use Rattle.ep_base.specs.Instances.{IsInstance}
use Rattle.ep_base.specs.Places.{Has}
use Rattle.ep_exec.proofs.Counts.{single_has}
use Rattle.ep_rules.proofs.Places.{has_left, has_right, has_split, has_tail, has_single}
use Rattle.ep_opening.specs.Gathering.{AreBelow}

-- a rising list stays so with one at its end that is above all others
rises_above : (xs : List ℕ) (i : ℕ) → IsRising xs → ((j : ℕ) → Has xs j → j < i) → IsRising (xs ++ i ∷ [])
rises_above [] i r below = (tt, tt)
rises_above (x ∷ []) i r below = (below x (single_has x), (tt, tt))
rises_above (x ∷ y ∷ ys) i r below = (r.0, rises_above (y ∷ ys) i r.1 (λ j h. below j (has_tail x j (y ∷ ys) h)))

pub below_rises : (set : List ℕ) (b : ℕ) (list : List ℕ) → AreBelow set b list → IsRising (list ++ b ∷ [])
below_rises set b list p = rises_above list b p.rising (λ j h. ((p.has j).0 h).1)

-- one more, or it isn't in the set

pub below_pushed : (set : List ℕ) (b : ℕ) (list new : List ℕ) → AreBelow set b list → Has set b → new ≡ list ++ b ∷ [] → AreBelow set (suc b) new
below_pushed set b list new p there is = subst (AreBelow set (suc b)) (sym is) (record {
  rising = below_rises set b list p;
  has = λ i. (inward i, outward i);
})
  where
    inward : (i : ℕ) → Has (list ++ b ∷ []) i → Has set i × (i < suc b)
    inward i h = elim (has_split list (b ∷ []) i h) [
      | inl k ↦ (let q = (p.has i).0 k in (q.0, (let lt : i < b = q.1 in omega arith)))
      | inr k ↦ (let e : b ≡ i = has_single b i k in (subst (Has set) e there, omega arith))
    ]

    outward : (i : ℕ) → Has set i × (i < suc b) → Has (list ++ b ∷ []) i
    outward i q = elim (cases_order i b) [
      | inl e ↦ subst (Has (list ++ b ∷ [])) (sym e) (has_right list (b ∷ []) b (single_has b))
      | inr o ↦ elim o [
        | inl lt ↦ has_left list (b ∷ []) i ((p.has i).1 (q.0, lt))
        | inr gt ↦ absurd (let le : i < suc b = q.1 in omega arith)
      ]
    ]
