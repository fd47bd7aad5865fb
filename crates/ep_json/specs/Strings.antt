-- Words as strings of JSON (RFC 8259, section 7): what is written for them, and what a reader of JSON takes that for.
use Rattle.std.specs.Prelude.{◌≡◌, ◌≢◌, ℕ, ◌+◌, ◌*◌, ◌/◌, ◌%◌, ◌<◌, Bool, true, ◌&&◌, eqb, not, cond, nat_le, nat_lt, List, [], ◌∷◌, ◌++◌, codes}

-- the digits of a byte's number are printed in lower case
abbrev pub digit_of : ℕ → ℕ
digit_of n = cond (nat_lt n 10) (n + 48) (n + 87)

abbrev pub escaped_number : ℕ → List ℕ
escaped_number b = codes "\\u00" ++ digit_of (b / 16) ∷ digit_of (b % 16) ∷ []

-- a printed byte, and none of " \ < > &
abbrev pub stands_for_itself : ℕ → Bool
stands_for_itself b = nat_le 32 b && nat_le b 126 && not (eqb b 34) && not (eqb b 92) && not (eqb b 60) && not (eqb b 62) && not (eqb b 38)

abbrev pub escaped_byte : ℕ → List ℕ
escaped_byte b = cond (stands_for_itself b) (b ∷ []) (escaped_number b)

abbrev pub escaped : List ℕ → List ℕ
escaped [] = []
escaped (b ∷ bs) = escaped_byte b ++ escaped bs

abbrev pub string_text : List ℕ → List ℕ
string_text words = codes "\"" ++ escaped words ++ codes "\""

-- What a reader of JSON takes the bytes between the quotes of a string for, where each character's number is below 256: a byte other than " and \
-- and control characters for itself, and \u00 with two digits for the character of their number.
pub data Reads : List ℕ → List ℕ → Type 0 where
  nothing : Reads [] []
  itself : (b : ℕ) (bs ws : List ℕ) → stands_for_itself b ≡ true → Reads bs ws → Reads (b ∷ bs) (b ∷ ws)
  number : (high low : ℕ) (bs ws : List ℕ) → high < 16 → low < 16 → Reads bs ws → Reads (codes "\\u00" ++ digit_of high ∷ digit_of low ∷ bs) ((16 * high + low) ∷ ws)

-- none of " & < >: it ends no string and no script, and begins no tag and no reference
abbrev pub IsHarmless : ℕ → Type 0
IsHarmless b = (b ≢ 34) × (b ≢ 38) × (b ≢ 60) × (b ≢ 62)

abbrev pub AreHarmless : List ℕ → Type 0
AreHarmless [] = Unit {0}
AreHarmless (b ∷ bs) = IsHarmless b × AreHarmless bs

abbrev pub AreBytes : List ℕ → Type 0
AreBytes [] = Unit {0}
AreBytes (b ∷ bs) = (b < 256) × AreBytes bs

-- what is written for words, each a byte, is read as them, and all of its bytes are harmless
pub record IsString (ws : List ℕ) : Type 0 where
  pub read_back : AreBytes ws → Reads (escaped ws) ws
  pub harmless : AreHarmless (escaped ws)
