-- What was done up to a point of some moves and stands in the end.
use Rattle.std.proofs.Common.{◌≡◌, ℕ, zero, suc, ◌≤◌, List, [], ◌∷◌, ◌++◌, take, drop, refl, sym, ap, ◌∙◌, arith, append-nil}
use Rattle.std.proofs.lemmas.List.{take-append-drop}
use Rattle.ep_node.specs.Crashes.{standing}
use Rattle.ep_crash_laws.specs.CrashReads.{stood}

-- the moves between two points
pub parts : {X : Type 0} (a n : ℕ) (xs : List X) → a ≤ n → (mid : List X) × (take a xs ++ mid ≡ take n xs) × (mid ++ drop n xs ≡ drop a xs)
parts zero n xs le = (take n xs, refl, take-append-drop n xs)
parts (suc a) zero xs le = absurd (omega arith)
parts (suc a) (suc n) [] le = ([], refl, refl)
parts {X} (suc a) (suc n) (x ∷ xs) le = let t = parts a n xs (omega arith) in (t.0, ap (λ (ys : List X). x ∷ ys) t.1, t.2)

pub standing_on : {M X : Type 0} (stand : M → List X → List X) (early late : List M) (these : List X) → standing stand these (early ++ late) ≡ standing stand (standing stand these early) late
standing_on stand [] late these = refl
standing_on stand (m ∷ early) late these = standing_on stand early late (stand m these)

-- outlast says what a move leaves of the first of two lists, of which stand says what it leaves
pub record Parts {M X : Type 0} (stand outlast : M → List X → List X) : Type 0 where
  pub both : (m : M) (xs ys : List X) → stand m (xs ++ ys) ≡ outlast m xs ++ stand m ys
  pub outlast_both : (m : M) (xs ys : List X) → outlast m (xs ++ ys) ≡ outlast m xs ++ outlast m ys

module _ {M X : Type 0} (stand outlast : M → List X → List X) (is : Parts stand outlast) where
  standing_both : (late : List M) (xs ys : List X) → standing stand (xs ++ ys) late ≡ standing outlast xs late ++ standing stand ys late
  standing_both [] xs ys = refl
  standing_both (m ∷ late) xs ys = ap (λ (these : List X). standing stand these late) (is.both m xs ys) ∙ standing_both late (outlast m xs) (stand m ys)

  -- what stands after more moves begins with what outlasts them
  pub standing_after : (late : List M) (xs : List X) → standing stand xs late ≡ standing outlast xs late ++ standing stand [] late
  standing_after late xs = ap (λ (these : List X). standing stand these late) (sym (append-nil xs)) ∙ standing_both late xs []

  pub outlasts_both : (late : List M) (xs ys : List X) → standing outlast (xs ++ ys) late ≡ standing outlast xs late ++ standing outlast ys late
  outlasts_both [] xs ys = refl
  outlasts_both (m ∷ late) xs ys = ap (λ (these : List X). standing outlast these late) (is.outlast_both m xs ys) ∙ outlasts_both late (outlast m xs) (outlast m ys)

  module _ (moves : List M) where
    -- what stood at a point begins what stands in the end
    pub stood_all : (n : ℕ) → (more : List X) × (standing stand [] moves ≡ stood stand outlast moves n ++ more)
    stood_all n = (
      standing stand [] (drop n moves),
      ap (standing stand []) (sym (take-append-drop n moves)) ∙ standing_on stand (take n moves) (drop n moves) []
          ∙ standing_after (drop n moves) (standing stand [] (take n moves)),
    )

    -- and what stood at a later one
    pub stood_later : (a n : ℕ) → a ≤ n → (more : List X) × (stood stand outlast moves n ≡ stood stand outlast moves a ++ more)
    stood_later a n le =
        let t = parts a n moves le in
        let was : List X = standing stand [] (take a moves) in
        let new : List X = standing stand [] t.0 in (
          standing outlast new (drop n moves),
          ap (λ (ms : List M). standing outlast (standing stand [] ms) (drop n moves)) (sym t.1)
              ∙ ap (λ (these : List X). standing outlast these (drop n moves)) (standing_on stand (take a moves) t.0 [] ∙ standing_after t.0 was)
              ∙ outlasts_both (drop n moves) (standing outlast was t.0) new
              ∙ ap (λ (these : List X). these ++ standing outlast new (drop n moves)) (sym (standing_on outlast t.0 (drop n moves) was) ∙ ap (standing outlast was) t.2),
        )
