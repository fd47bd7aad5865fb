-- Powers of ten.
use Rattle.std.proofs.Common.{◌≡◌, ℕ, zero, suc, ◌+◌, ◌-◌, ◌*◌, ◌^◌, ◌<◌, ◌≤◌, subst, arith}
use Rattle.std.proofs.lemmas.Grind.{pow_more}

grows : (i d : ℕ) → 10 ^ i ≤ 10 ^ (i + d)
grows i zero = subst (λ n. 10 ^ i ≤ 10 ^ n) (let e : i ≡ i + 0 = omega arith in e) (let e : 10 ^ i ≤ 10 ^ i = omega arith in e)
grows i (suc d) =
    let before : 10 ^ i ≤ 10 ^ (i + d) = grows i d in
    let more : 10 ^ (i + d + 1) ≡ 10 ^ (i + d) * 10 = pow_more 10 (i + d) in
    let same : i + d + 1 ≡ i + suc d = omega arith in
    subst (λ n. 10 ^ i ≤ 10 ^ n) same (omega arith)

-- a number of at most 14 digits, and the next digit
pub digits_fit : (index count value : ℕ) → index < count → count ≤ 15 → value < 10 ^ index → value < 100000000000000
digits_fit index count value here short small =
    let grown : 10 ^ index ≤ 10 ^ (index + (14 - index)) = grows index (14 - index) in
    let whole : index + (14 - index) ≡ 14 = omega arith in
    let most : 10 ^ index ≤ 100000000000000 = subst (λ n. 10 ^ index ≤ 10 ^ n) whole grown in
    omega arith
