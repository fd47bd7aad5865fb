-- Numbers in bytes.
use Rattle.std.proofs.Common.{◌≡◌, ℕ, ◌+◌, ◌*◌, ◌%◌, ◌^◌, List, [], ◌∷◌, length, ap, sym, ◌∙◌, arith}
use Rattle.std.proofs.Math.Nat.{add-mul, add_assoc, mul_assoc, mul_comm, pow-succ'}
use Rattle.std.specs.Prelude.{fold}
use Rattle.byteorder.specs.Endian.{big_from, big_number}
use Rattle.byteorder.specs.Numbers.{big_from-cons}

abbrev pub step : ℕ → ℕ → ℕ
step number byte = 256 * number + byte

-- what 64 bits have of the number that these bytes go on
abbrev pub wrapped : ℕ → List ℕ → ℕ
wrapped number bytes = fold step number bytes % 2 ^ 64

same_step : (a c x : ℕ) → a % 2 ^ 64 ≡ c % 2 ^ 64 → step a x % 2 ^ 64 ≡ step c x % 2 ^ 64
same_step a c x same = omega (arith, same)

-- numbers that are the same but for what is past 64 bits stay so, whatever bytes follow
same_from : (xs : List ℕ) (a c : ℕ) → a % 2 ^ 64 ≡ c % 2 ^ 64 → wrapped a xs ≡ wrapped c xs
same_from [] a c same = same
same_from (x ∷ xs) a c same = same_from xs (step a x) (step c x) (same_step a c x same)

next : (n b : ℕ) → ((n * 256 % 2 ^ 64 + b) % 2 ^ 64) % 2 ^ 64 ≡ step n b % 2 ^ 64
next n b = omega arith

-- the next byte is taken
pub taken : (n b : ℕ) (xs : List ℕ) → wrapped ((n * 256 % 2 ^ 64 + b) % 2 ^ 64) xs ≡ wrapped n (b ∷ xs)
taken n b xs = same_from xs _ (step n b) (next n b)

-- bytes behind a number: it counts 256 times as much for each of them
behind : (xs : List ℕ) (a : ℕ) → fold step a xs ≡ a * 256 ^ length xs + big_from 0 (length xs) xs
behind [] a = omega arith
behind (x ∷ xs) a =
    let p : ℕ = 256 ^ length xs in
    let rest = behind xs (step a x) in
    let moved = big_from-cons 0 (length xs) x xs in
    let whole : ℕ = a * 256 ^ length (x ∷ xs) in
    let here : 256 * a * p ≡ whole =
    ap (λ (y : ℕ). y * p) (mul_comm 256 a) ∙ mul_assoc a 256 p ∙ ap (λ (y : ℕ). a * y) (sym (pow-succ' 256 (length xs))) in
    let first : step a x * p ≡ whole + x * p = add-mul (256 * a) x p ∙ ap (λ (y : ℕ). y + x * p) here in
    rest
    ∙ ap (λ (y : ℕ). y + big_from 0 (length xs) xs) first
    ∙ add_assoc whole (x * p) (big_from 0 (length xs) xs)
    ∙ ap (λ (y : ℕ). whole + (x * p + y)) (sym moved)

-- the bytes taken one after the other are the number that they spell
pub all_taken : (xs : List ℕ) → fold step 0 xs ≡ big_number (length xs) xs
all_taken xs = behind xs 0 ∙ omega arith
