-- What a mark more makes of marks.
use Rattle.std.proofs.Common.{◌≡◌, ℕ, ◌<◌, ◌≤◌, Bool, true, false, List, [], ◌∷◌, ◌++◌, length, inl, inr, sym, subst, ◌∙◌, arith}
use Rattle.std.specs.Prelude.{slice_index_or, slice_set}
use Rattle.std.specs.List.{AllByRecursion}
use Rattle.std.proofs.lemmas.Bool.{cases_eq, false≢true}
use Rattle.std.proofs.lemmas.List.{get_or-set_same, get_or-set_other}
use Rattle.ep_base.specs.Instances.{IsInstance}
use Rattle.ep_base.specs.Places.{Has}
use Rattle.ep_rules.proofs.Places.{has_left, has_right, has_split, place_head, has_single}
use Rattle.ep_space.specs.Entries.{slot}
use Rattle.ep_space.proofs.Spots.{slot-is}
use Rattle.ep_exec.specs.Marks.{AreMarks}

pub marks_wider : (is : List ℕ) (ms more : List Bool) → AreMarks is ms → ((k : ℕ) → slice_index_or more k false ≡ slice_index_or ms k false) → AreMarks is more
marks_wider is ms more s same i known = (λ has. same (slot i) ∙ (s i known).0 has, λ h. (s i known).1 (sym (same (slot i)) ∙ h))

pub marks_more : (is : List ℕ) (ms : List Bool) (j : ℕ) → AreMarks is ms → IsInstance j → slot j < length ms → AreMarks (is ++ j ∷ []) (slice_set ms (slot j) true)
marks_more is ms j s own within i known = elim (cases_eq i j) [
  | inl e ↦
      let here : Has (j ∷ []) j = (let p = place_head j [] in omega arith) in (
        λ _. subst (λ q. slice_index_or (slice_set ms (slot j) true) (slot q) false ≡ true) (sym e) (get_or-set_same ms (slot j) true false within),
        λ _. subst (Has (is ++ j ∷ [])) (sym e) (has_right is (j ∷ []) j here),
      )
  | inr apart ↦
      let other : slice_index_or (slice_set ms (slot j) true) (slot i) false ≡ slice_index_or ms (slot i) false = get_or-set_other ms (slot j) (slot i) true false (λ e. apart (slot-is i j known own e)) in (
        λ has. other ∙ (s i known).0 (elim (has_split is (j ∷ []) i has) [ inl a ↦ a | inr a ↦ absurd (apart (sym (has_single j i a))) ]),
        λ h. has_left is (j ∷ []) i ((s i known).1 (sym other ∙ h)),
      )
]

pub marks_none : AreMarks [] []
marks_none i known = (λ has. absurd (omega arith), λ h. absurd (false≢true h))

-- slots up to one that is there are there
pub all_within : (t n : ℕ) (is : List ℕ) → t < n → AllByRecursion (λ i. slot i ≤ t) is → AllByRecursion (λ i. slot i < n) is
all_within t n [] less h = tt
all_within t n (i ∷ is) less h = (let at : slot i ≤ t = h.0 in omega (arith, at, less), all_within t n is less h.1)
