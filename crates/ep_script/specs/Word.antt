-- A key or a value as one word: a byte from 33 to 126 other than `%` stands for itself, any other byte is `%` and two hexadecimal digits,
-- and the empty value is the whole word `%-`.
use Rattle.std.specs.Prelude.{◌≡◌, ℕ, ◌+◌, ◌-◌, ◌*◌, ◌/◌, ◌%◌, ◌<◌, ◌==◌, ◌&&◌, not, nat_le, nat_lt, Bool, List, [], ◌∷◌, ◌++◌, Option, Some, None, if◌then◌else◌, option_map, option_and_then, All, MatchOption, codes}
use Rattle.std.specs.Borrow.{Bor}
use Rattle.std.specs.Str.{bytes_eq}

abbrev pub is_plain : ℕ → Bool
is_plain b = nat_le 33 b && nat_le b 126 && not (b == 37)

-- those of them that are above `%`
abbrev pub is_above_sign : ℕ → Bool
is_above_sign b = nat_le 38 b && nat_le b 126

-- digits are printed in lower case
abbrev pub digit_of : ℕ → ℕ
digit_of n = if nat_lt n 10 then n + 48 else n + 87

-- both cases are read
abbrev pub digit_value : ℕ → Option ℕ
digit_value d =
    if nat_le 48 d && nat_le d 57 then Some (d - 48)
    else if nat_le 97 d && nat_le d 102 then Some (d - 87)
    else if nat_le 65 d && nat_le d 70 then Some (d - 55)
    else None

-- what one byte is printed as
abbrev pub byte_word : ℕ → List ℕ
byte_word b = if is_plain b then b ∷ [] else 37 ∷ digit_of (b / 16) ∷ digit_of (b % 16) ∷ []

abbrev pub byte_words : List ℕ → List ℕ
byte_words [] = []
byte_words (b ∷ bs) = byte_word b ++ byte_words bs

-- what bytes are printed as
abbrev pub word_of : List ℕ → List ℕ
word_of [] = 37 ∷ 45 ∷ []
word_of (b ∷ bs) = byte_words (b ∷ bs)

-- the byte that two hexadecimal digits spell
abbrev pub digits_byte : ℕ → ℕ → Option ℕ
digits_byte high low = option_and_then (λ h. option_map (λ l. 16 * h + l) (digit_value low)) (digit_value high)

-- the byte that a word begins with after a `%`, and what follows it; none where no byte is spelled there
abbrev pub escaped_byte : List ℕ → Option (ℕ × List ℕ)
escaped_byte [] = None
escaped_byte (high ∷ []) = None
escaped_byte (high ∷ low ∷ cs) = option_map (λ b. (b, cs)) (digits_byte high low)

-- the byte that a word begins with, and what follows it; none where no byte is spelled there
abbrev pub first_byte : List ℕ → Option (ℕ × List ℕ)
first_byte [] = None
first_byte (c ∷ cs) = if c == 37 then escaped_byte cs else if is_plain c then Some (c, cs) else None

-- where in a word a reader is
pub data Place : Type 0 where
  between : Place
  after_sign : Place

-- the bytes that a word spells, after those that were read before; none where it spells none
abbrev pub spelled : Place → List ℕ → List ℕ → Option (List ℕ)
spelled between done [] = Some done
spelled between done (c ∷ cs) =
    if c == 37 then spelled after_sign done cs
    else if is_plain c then spelled between (done ++ c ∷ []) cs
    else None
spelled after_sign done [] = None
spelled after_sign done (high ∷ []) = None
spelled after_sign done (high ∷ low ∷ cs) = option_and_then (λ b. spelled between (done ++ b ∷ []) cs) (digits_byte high low)

-- the bytes that a word spells; none where it spells none
abbrev pub bytes_of : List ℕ → Option (List ℕ)
bytes_of [] = None
bytes_of (c ∷ cs) = if bytes_eq (c ∷ cs) (codes "%-") then Some [] else spelled between [] (c ∷ cs)

-- this byte and what follows it, as they were read; or none
abbrev pub lent_byte : Option (ℕ × Bor (List ℕ)) → Option (ℕ × List ℕ)
lent_byte = option_map (λ x. (x.0, x.1.now))

-- the rest of a word after a `%` spells no byte, or spells one and goes on
abbrev pub Escapes : List ℕ → Option (ℕ × Bor (List ℕ)) → Type 0
Escapes w r = (done : List ℕ) → MatchOption r (spelled after_sign done w ≡ None) (λ x. spelled after_sign done w ≡ spelled between (done ++ x.0 ∷ []) x.1.now)

-- reading what is printed gives the bytes back
abbrev pub WordLaw : Type 0
WordLaw = (bs : List ℕ) → All (λ b. b < 256) bs → bytes_of (word_of bs) ≡ Some bs
