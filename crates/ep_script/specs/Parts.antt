-- The words of a line, the parts of a word, and numbers.
use Rattle.std.specs.Prelude.{ℕ, ◌+◌, ◌*◌, ◌-◌, ◌==◌, ◌&&◌, ◌||◌, not, nat_le, Bool, List, [], ◌∷◌, Option, Some, None, length, filter, if◌then◌else◌}
use Rattle.std.specs.List.{slice_split, list_all}

abbrev pub is_blank : ℕ → Bool
is_blank b = (b == 32) || (b == 9)

-- spaces and tabs separate words
abbrev pub words_of : List ℕ → List (List ℕ)
words_of line = filter (λ w. not (length w == 0)) (slice_split is_blank line)

abbrev pub is_digit : ℕ → Bool
is_digit b = nat_le 48 b && nat_le b 57

-- the number that decimal digits spell, after n
abbrev pub value_after : ℕ → List ℕ → ℕ
value_after n [] = n
value_after n (d ∷ ds) = value_after (10 * n + (d - 48)) ds

-- the number that 1 to so many decimal digits spell
abbrev pub digits_of : ℕ → List ℕ → Option ℕ
digits_of most w = if nat_le 1 (length w) && nat_le (length w) most && list_all is_digit w then Some (value_after 0 w) else None

-- a number has 1 to 10 of them
abbrev pub number_of : List ℕ → Option ℕ
number_of w = digits_of 10 w
