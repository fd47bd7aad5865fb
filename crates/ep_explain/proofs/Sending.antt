-- The first place at which frames differ.
use Rattle.std.proofs.Common.{◌≡◌, ◌≤◌, ◌<◌, ◌+◌, ℕ, true, false, List, [], ◌∷◌, ◌++◌, length, take, get_or}
use Rattle.std.proofs.Common.{Option, Some, None, sym, ap, ◌∙◌, arith}
use Rattle.std.proofs.lemmas.List.{take_more}
use Rattle.std.proofs.lemmas.List.Sums.{common_prefix_len-drop_yes}
use Rattle.std.proofs.lemmas.Slice.Eq.{bytes_eq-Decides}
use Rattle.std.specs.Prelude.{option_copied}
use Rattle.std.specs.Borrow.{Bor}
use Rattle.std.specs.Slice.{IsItemAt}
use Rattle.std.specs.Str.{bytes_eq}
use Rattle.ep_explain.specs.Steps.{same_frame}
use Rattle.ep_explain.proofs.Differing.{CountsFrom}

-- the first k frames are there in both, and the same
pub record AreSame (xs ys : List (List ℕ)) (k : ℕ) : Type 0 where
  pub both : (k ≤ length xs) × (k ≤ length ys)
  pub same : take k xs ≡ take k ys
  pub front : CountsFrom bytes_eq xs ys k

module _ (xs ys : List (List ℕ)) (k : ℕ) (before : AreSame xs ys k) where
  both_more :
      (a b : List ℕ) → k < length xs → k < length ys → get_or xs k a ≡ a → get_or ys k b ≡ b → bytes_eq a b ≡ true →
      AreSame xs ys (k + 1)
  both_more a b lt below here there is =
      let equal : a ≡ b = (bytes_eq-Decides a b).0 is in
      let first : bytes_eq (get_or xs k a) b ≡ true = ap (λ (l : List ℕ). bytes_eq l b) here ∙ is in
      let test : bytes_eq (get_or xs k a) (get_or ys k b) ≡ true =
      ap (λ (l : List ℕ). bytes_eq (get_or xs k a) l) there ∙ first in
      let step = common_prefix_len-drop_yes bytes_eq xs ys k a b lt below test in
      let one : take (k + 1) xs ≡ take k xs ++ a ∷ [] =
      take_more xs k a lt ∙ ap (λ (l : List ℕ). take k xs ++ l ∷ []) here in
      let other : take (k + 1) ys ≡ take k ys ++ b ∷ [] =
      take_more ys k b below ∙ ap (λ (l : List ℕ). take k ys ++ l ∷ []) there in
      let middle : take k xs ++ a ∷ [] ≡ take k ys ++ b ∷ [] =
      ap (λ (l : List (List ℕ)). l ++ a ∷ []) before.same ∙ ap (λ (l : List ℕ). take k ys ++ l ∷ []) equal in
      record {
        both = (omega arith, omega arith);
        same = one ∙ middle ∙ sym other;
        front = omega (arith, before.front, step);
      }

  pub one_more :
      (o p : Option (Bor (List ℕ))) → IsItemAt xs k o → IsItemAt ys k p →
      same_frame (option_copied o) (option_copied p) ≡ true → AreSame xs ys (k + 1)
  one_more None p one other is = absurd (let e : false ≡ true = is in cc)
  one_more (Some x) None one other is = absurd (let e : false ≡ true = is in cc)
  one_more (Some x) (Some y) one other is =
      both_more x.now y.now (grind (arith, one.0)) (grind (arith, other.0)) (sym one.1) (sym other.1) is
