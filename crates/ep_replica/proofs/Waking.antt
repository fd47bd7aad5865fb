-- Flags, and numbers whose blocker was committed, one after the other.
use Rattle.std.proofs.Common.{◌≡◌, ◌≢◌, inl, inr, ℕ, ◌+◌, ◌≤◌, ◌<◌, Bool, true, false, Option, None, List, [], ◌∷◌, ◌++◌, zero, suc, length, get_or, set, refl, sym, subst, ◌∙◌}
use Rattle.std.proofs.lemmas.Bool.{cases_eq}
use Rattle.std.proofs.lemmas.List.{get_or-set_same, get_or-set_other}
use Rattle.ep_replica.specs.Blockers.{is_due, blocker_of, Wakes}
use Rattle.ep_replica.specs.Spans.{IsWithin}
use Rattle.ep_replica.specs.declared.span.Span.{Span}

-- the numbers from `first` to before `number` were woken, and the others are as they were
pub record AreWoken (i first number : ℕ) (old new : List (Option ℕ)) (due : List Bool) (left : Span) : Type 0 where
  pub low : first ≤ number
  pub each : (n : ℕ) → first ≤ n → n < number → Wakes i (blocker_of old n) (blocker_of new n) (is_due due n) × (blocker_of new n ≢ None → IsWithin left n)
  pub before : (n : ℕ) → n < first → blocker_of new n ≡ blocker_of old n
  pub rest : (n : ℕ) → number ≤ n → blocker_of new n ≡ blocker_of old n

pub wakes_more : (i : ℕ) (old new : Option ℕ) (due due' : Bool) → (due ≡ true → due' ≡ true) → Wakes i old new due → Wakes i old new due'
wakes_more i old new due due' more w = elim w [
  | inl same ↦ inl same
  | inr was ↦ inr (was.0, more was.1)
]

-- a flag that is set after another one was cleared
pub other_flag : (flags : List Bool) (m n : ℕ) → m < length flags → is_due (set flags m false) n ≡ true → (n ≢ m) × (is_due flags n ≡ true)
other_flag flags m n low is = elim (cases_eq n m) [
  | inl same ↦ absurd (
      let here : is_due (set flags m false) m ≡ false = get_or-set_same flags m false false low in
      let e : true ≡ false = sym (subst (λ z. is_due (set flags m false) z ≡ true) same is) ∙ here in
      cc)
  | inr ne ↦ (ne, sym (get_or-set_other flags m n false false ne) ∙ is)
]

-- a place more, with nothing in it
pub pushed_none : {X : Type 0} (xs : List (Option X)) (n : ℕ) → get_or (xs ++ None ∷ []) n None ≡ get_or xs n None
pushed_none [] zero = refl
pushed_none [] (suc n) = refl
pushed_none (x ∷ xs) zero = refl
pushed_none (x ∷ xs) (suc n) = pushed_none xs n
