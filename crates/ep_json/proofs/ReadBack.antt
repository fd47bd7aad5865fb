-- What is written for words is read as the words, and has none of the bytes that end a string or begin a tag.
use Rattle.std.proofs.Common.{◌≡◌, ◌≢◌, ℕ, ◌+◌, ◌*◌, ◌/◌, ◌%◌, ◌<◌, Bool, true, false, ◌&&◌, cond, List, [], ◌∷◌, ◌++◌, codes, refl, sym, subst, arith}
use Rattle.std.specs.Prelude.{eqb, not, nat_le, nat_lt}
use Rattle.ep_json.specs.Strings.{digit_of, escaped_number, escaped_byte, escaped, stands_for_itself, Reads, nothing, itself, number, IsHarmless, AreHarmless, AreBytes, IsString}

one : (b : ℕ) (bs ws : List ℕ) → b < 256 → Reads bs ws → Reads (escaped_byte b ++ bs) (b ∷ ws)
one b bs ws low r = go (stands_for_itself b) refl
  where
    go : (t : Bool) → stands_for_itself b ≡ t → Reads (cond t (b ∷ []) (escaped_number b) ++ bs) (b ∷ ws)
    go true e = itself b bs ws e r
    go false e =
        let whole : 16 * (b / 16) + b % 16 ≡ b = grind arith in
        let high : b / 16 < 16 = grind arith in
        let rest : b % 16 < 16 = grind arith in
        subst (λ (n : ℕ). Reads (codes "\\u00" ++ digit_of (b / 16) ∷ digit_of (b % 16) ∷ bs) (n ∷ ws)) whole (number (b / 16) (b % 16) bs ws high rest r)

reads : (ws : List ℕ) → AreBytes ws → Reads (escaped ws) ws
reads [] low = nothing
reads (b ∷ bs) low = one b (escaped bs) bs low.0 (reads bs low.1)

digit_harmless : (n : ℕ) → IsHarmless (digit_of n)
digit_harmless n = go (nat_lt n 10) refl
  where
    go : (t : Bool) → nat_lt n 10 ≡ t → IsHarmless (cond t (n + 48) (n + 87))
    go true e = grind arith
    go false e = grind arith

itself_harmless : (b : ℕ) → stands_for_itself b ≡ true → IsHarmless b
itself_harmless b e = grind arith

byte_harmless : (b : ℕ) (bs : List ℕ) → AreHarmless bs → AreHarmless (escaped_byte b ++ bs)
byte_harmless b bs h = go (stands_for_itself b) refl
  where
    go : (t : Bool) → stands_for_itself b ≡ t → AreHarmless (cond t (b ∷ []) (escaped_number b) ++ bs)
    go true e = (itself_harmless b e, h)
    go false e =
        let slash : IsHarmless 92 = grind arith in
        let letter : IsHarmless 117 = grind arith in
        let zero : IsHarmless 48 = grind arith in
        (slash, (letter, (zero, (zero, (digit_harmless (b / 16), (digit_harmless (b % 16), h))))))

harmless : (ws : List ℕ) → AreHarmless (escaped ws)
harmless [] = tt
harmless (b ∷ bs) = byte_harmless b (escaped bs) (harmless bs)

pub is_string : (ws : List ℕ) → IsString ws
is_string ws = record { read_back = reads ws; harmless = harmless ws }
