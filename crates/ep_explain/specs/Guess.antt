-- What bytes are, by the first of them.
use Rattle.std.specs.Prelude.{◌≡◌, ℕ, ◌-◌, ◌≤◌, ◌==◌, ◌&&◌, ◌||◌, not, nat_eq, nat_lt, nat_le, Bool, true, false}
use Rattle.std.specs.Prelude.{List, [], ◌∷◌, ◌++◌, length, take, drop, map, codes, if◌then◌else◌}
use Rattle.std.specs.Char.{to_ascii_lowercase}
use Rattle.std.specs.List.{starts_with, list_all}
use Rattle.ep_explain.specs.Magic.{MayBegin}

-- a character of texts: a printed one, a blank, a tab or what ends a line
abbrev pub is_text_byte : ℕ → Bool
is_text_byte b = (nat_le 32 b && not (b == 127)) || b == 9 || b == 13 || b == 10

-- no bundle begins so, and the first 64 bytes are characters of texts
abbrev pub IsText : List ℕ → Type 0
IsText bytes = (¬ MayBegin bytes) × (list_all is_text_byte (take 64 bytes) ≡ true)

-- a printed character, and no blank
abbrev pub is_printed : ℕ → Bool
is_printed b = nat_lt 32 b && nat_lt b 127

-- two printed characters, each behind a byte 0 or before one
abbrev pub are_wide : (a b c d : ℕ) → Bool
are_wide a b c d =
    (a == 0 && is_printed b && c == 0 && is_printed d) || (is_printed a && b == 0 && is_printed c && d == 0)

abbrev pub begins_wide : List ℕ → Bool
begins_wide (a ∷ b ∷ c ∷ d ∷ more) = are_wide a b c d
begins_wide _ = false

-- the byte order mark of UTF-16, in either order
abbrev pub begins_marked : List ℕ → Bool
begins_marked bytes = starts_with nat_eq bytes (255 ∷ 254 ∷ []) || starts_with nat_eq bytes (254 ∷ 255 ∷ [])

-- they begin by a byte order mark of UTF-16, or by two printed characters in it
abbrev pub is_utf16 : List ℕ → Bool
is_utf16 bytes = begins_marked bytes || begins_wide bytes

-- the last bytes, as many as that
abbrev pub end_of : List ℕ → ℕ → List ℕ
end_of bytes count = drop (length bytes - count) bytes

-- UTF-8's byte order mark
abbrev pub order_mark : List ℕ
order_mark = 239 ∷ 187 ∷ 191 ∷ []

abbrev pub without_mark : List ℕ → List ℕ
without_mark bytes = if starts_with nat_eq bytes order_mark then drop 3 bytes else bytes

-- one is the other, but for one byte at most that is more, less or another
abbrev pub IsNear : List ℕ → List ℕ → Type 0
IsNear xs ys =
    (front x y back : List ℕ)
    × (xs ≡ front ++ (x ++ back))
    × (ys ≡ front ++ (y ++ back))
    × (length x ≤ 1)
    × (length y ≤ 1)

-- the word is nearly `replicas`, whatever the case of its letters, behind a byte order mark if it has one
abbrev pub IsNearlyReplicas : List ℕ → Type 0
IsNearlyReplicas word = IsNear (map to_ascii_lowercase (without_mark word)) (codes "replicas")
