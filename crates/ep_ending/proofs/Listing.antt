-- How far things are listed, by the least next one: those before it.
use Rattle.std.proofs.Common.{◌≡◌, ◌≢◌, ◌↔◌, inl, inr, ℕ, ◌+◌, ◌-◌, ◌<◌, ◌≤◌, Bool, true, false, eqb, ltb, List, [], ◌∷◌, ◌++◌, length, Option, Some, None, refl, sym, ap, subst, ◌∙◌, arith, append-nil, append_assoc}
use Rattle.std.proofs.lemmas.List.{length-append}
use Rattle.std.proofs.lemmas.Bool.{eqb-true, eqb-false, ltb-true, ltb-false}
use Rattle.ep_base.specs.Deps.{IsRising}
use Rattle.ep_rules.specs.Worlds.{In}
use Rattle.ep_rules.proofs.Merged.{in_left, in_right, in_split}
use Rattle.ep_ending.specs.Endings.{IsBefore}
use Rattle.ep_space.specs.Open.{IsAbove, IsLeast}

abbrev pub IsSuch : (ℕ → Type 0) → Option ℕ → Type 0
IsSuch P None = Unit {0}
IsSuch P (Some n) = P n

-- the text has lines of those before the next one more
pub record Listed (P : ℕ → Type 0) (lines : List ℕ → List ℕ) (next : Option ℕ) (old new : List ℕ) : Type 0 where
  pub is : List ℕ
  pub rising : IsRising is
  pub these : (i : ℕ) → In i is ↔ (P i × IsBefore next i)
  pub too : IsSuch P next
  pub text : new ≡ old ++ lines is

-- how many turns are left
abbrev pub left_after : Option ℕ → ℕ
left_after None = 0
left_after (Some n) = 500000 - n

pub rising_more : (is : List ℕ) (n : ℕ) → IsRising is → ((i : ℕ) → In i is → i < n) → IsRising (is ++ n ∷ [])
rising_more [] n rises all = (tt, tt)
rising_more (i ∷ []) n rises all = (let lt : i < n = all i (inl refl) in lt, (tt, tt))
rising_more (i ∷ j ∷ is) n rises all = (rises.0, rising_more (j ∷ is) n rises.1 (λ x h. all x (inr h)))

-- each line is the one of its own, one after another
abbrev pub AreLines : (ℕ → List ℕ) → (List ℕ → List ℕ) → Type 0
AreLines line lines = (lines [] ≡ []) × ((i : ℕ) (is : List ℕ) → lines (i ∷ is) ≡ line i ++ lines is)

module _ (P : ℕ → Type 0) (line : ℕ → List ℕ) (lines : List ℕ → List ℕ) (are : AreLines line lines) where
  pub starts : (next : Option ℕ) (t : List ℕ) → IsLeast (λ i. P i × IsAbove None i) next → Listed P lines next t t
  starts None t found = record { is = []; rising = tt; these = (λ i. ((λ h. absurd h), (λ h. absurd (found i (h.0, tt))))); too = tt; text = sym (append-nil t) ∙ ap (λ (z : List ℕ). t ++ z) (sym are.0) }
  starts (Some n) t found = record { is = []; rising = tt; these = (λ i. ((λ h. absurd h), (λ h. absurd (found.1 i (h.0, tt) h.1)))); too = found.0.0; text = sym (append-nil t) ∙ ap (λ (z : List ℕ). t ++ z) (sym are.0) }

  pub starts_empty : (next : Option ℕ) (t : List ℕ) (found : IsLeast (λ i. P i × IsAbove None i) next) → length (starts next t found).is ≡ 0
  unfolding starts
  starts_empty None t found = refl
  starts_empty (Some n) t found = refl

  lines_more : (is : List ℕ) (n : ℕ) → lines (is ++ n ∷ []) ≡ lines is ++ line n
  lines_more [] n = are.1 n [] ∙ ap (λ (z : List ℕ). line n ++ z) are.0 ∙ append-nil (line n) ∙ ap (λ (z : List ℕ). z ++ line n) (sym are.0)
  lines_more (i ∷ is) n =
      are.1 i (is ++ n ∷ []) ∙ ap (λ (z : List ℕ). line i ++ z) (lines_more is n) ∙ sym (append_assoc (line i) (lines is) (line n))
      ∙ ap (λ (z : List ℕ). z ++ line n) (sym (are.1 i is))

  -- none is between the one and the next
  nothing_between : (n : ℕ) (next : Option ℕ) → IsLeast (λ i. P i × IsAbove (Some n) i) next → (i : ℕ) → P i → IsBefore next i → i ≤ n
  nothing_between n None found i is before = go (ltb n i) refl
    where
      go : (b : Bool) → ltb n i ≡ b → i ≤ n
      go true test = absurd (found i (is, ltb-true n i test))
      go false test = ltb-false n i test
  nothing_between n (Some m) found i is before = go (ltb n i) refl
    where
      go : (b : Bool) → ltb n i ≡ b → i ≤ n
      go true test = absurd (found.1 i (is, ltb-true n i test) before)
      go false test = ltb-false n i test

  -- the next one is after the one
  comes_before : (n : ℕ) (next : Option ℕ) → IsLeast (λ i. P i × IsAbove (Some n) i) next → (i : ℕ) → i ≤ n → IsBefore next i
  comes_before n None found i le = tt
  comes_before n (Some m) found i le = let lt : n < m = found.0.1 in omega arith

  such_too : (n : ℕ) (next : Option ℕ) → IsLeast (λ i. P i × IsAbove (Some n) i) next → IsSuch P next
  such_too n None found = tt
  such_too n (Some m) found = found.0.0

  pub goes_on :
      (n : ℕ) (next : Option ℕ) (old mid new : List ℕ) → Listed P lines (Some n) old mid → IsLeast (λ i. P i × IsAbove (Some n) i) next → new ≡ mid ++ line n → Listed P lines next old new
  goes_on n next old mid new was found reported = record {
    is = was.is ++ n ∷ [];
    rising = rising_more was.is n was.rising (λ i h. ((was.these i).0 h).1);
    these = (λ i. (to i, from i));
    too = such_too n next found;
    text = reported ∙ ap (λ (z : List ℕ). z ++ line n) was.text ∙ append_assoc old (lines was.is) (line n) ∙ ap (λ (z : List ℕ). old ++ z) (sym (lines_more was.is n));
  }
    where
      to : (i : ℕ) → In i (was.is ++ n ∷ []) → P i × IsBefore next i
      to i h = elim (in_split i was.is (n ∷ []) h) [
        | inl before ↦ (let w = (was.these i).0 before in (w.0, comes_before n next found i (let lt : i < n = w.1 in omega arith)))
        | inr (inl is) ↦ (subst (λ j. P j) is was.too, comes_before n next found i (omega arith))
        | inr (inr none) ↦ absurd none
      ]

      from : (i : ℕ) → P i × IsBefore next i → In i (was.is ++ n ∷ [])
      from i h = go (eqb n i) refl
        where
          go : (b : Bool) → eqb n i ≡ b → In i (was.is ++ n ∷ [])
          go true test = in_right i was.is (n ∷ []) (inl (eqb-true n i test))
          go false test =
              let apart : n ≢ i = eqb-false n i test in
              let le : i ≤ n = nothing_between n next found i h.0 h.1 in
              in_left i was.is (n ∷ []) ((was.these i).1 (h.0, omega arith))

  pub longer :
      (n : ℕ) (next : Option ℕ) (old mid new : List ℕ) (was : Listed P lines (Some n) old mid) (found : IsLeast (λ i. P i × IsAbove (Some n) i) next) (reported : new ≡ mid ++ line n) →
      length (goes_on n next old mid new was found reported).is ≡ length was.is + 1
  unfolding goes_on
  longer n next old mid new was found reported = length-append was.is (n ∷ [])

  -- all of them
  pub record ListsAll (old new : List ℕ) : Type 0 where
    pub is : List ℕ
    pub rising : IsRising is
    pub these : (i : ℕ) → In i is ↔ P i
    pub text : new ≡ old ++ lines is

  pub over : (old new : List ℕ) → Listed P lines None old new → ListsAll old new
  over old new was = record { is = was.is; rising = was.rising; these = (λ i. ((λ h. ((was.these i).0 h).0), (λ h. (was.these i).1 (h, tt)))); text = was.text }
