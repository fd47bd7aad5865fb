-- Numbers of two and of three digits.
use Rattle.std.proofs.Common.{◌≡◌, ℕ, ◌+◌, ◌/◌, ◌%◌, ◌<◌, ◌≤◌, List, [], ◌∷◌, ◌++◌, ap, sym, ◌∙◌, arith}
use Rattle.std.specs.Fmt.{decimal}
use Rattle.std.proofs.lemmas.Fmt.{decimal_digit, decimal_step}

pub two : (n : ℕ) → 10 ≤ n → n < 100 → decimal n ≡ (48 + n / 10) ∷ (48 + n % 10) ∷ []
two n lo hi = decimal_step n lo (omega arith) ∙ ap (λ (ds : List ℕ). ds ++ ((48 + n % 10) ∷ [])) (decimal_digit (n / 10) (omega arith))

pub three : (n : ℕ) → 100 ≤ n → n < 1000 → decimal n ≡ (48 + n / 10 / 10) ∷ (48 + n / 10 % 10) ∷ (48 + n % 10) ∷ []
three n lo hi = decimal_step n (omega arith) (omega arith) ∙ ap (λ (ds : List ℕ). ds ++ ((48 + n % 10) ∷ [])) (two (n / 10) (omega arith) (omega arith))

-- what is appended, by its digits
pub appended_two : (n a b : ℕ) (before after : List ℕ) → 10 ≤ n → n < 100 → a ≡ 48 + n / 10 → b ≡ 48 + n % 10 → after ≡ before ++ (a ∷ b ∷ []) → after ≡ before ++ decimal n
appended_two n a b before after lo hi ta tb is = is ∙ (λ t. before ++ (ta t ∷ tb t ∷ [])) ∙ ap (λ (ds : List ℕ). before ++ ds) (sym (two n lo hi))

pub appended_three : (n a b c : ℕ) (before after : List ℕ) → 100 ≤ n → n < 1000 → a ≡ 48 + n / 10 / 10 → b ≡ 48 + n / 10 % 10 → c ≡ 48 + n % 10 → after ≡ before ++ (a ∷ b ∷ c ∷ []) → after ≡ before ++ decimal n
appended_three n a b c before after lo hi ta tb tc is = is ∙ (λ t. before ++ (ta t ∷ tb t ∷ tc t ∷ [])) ∙ ap (λ (ds : List ℕ). before ++ ds) (sym (three n lo hi))
