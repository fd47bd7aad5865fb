-- What is given for a bundle, and is none.
use Rattle.std.specs.Prelude.{◌≡◌, ◌⊎◌, IsTrue, [], ℕ, ◌+◌, ◌==◌, nat_eq, List, drop, position, codes, if◌then◌else◌}
use Rattle.std.specs.List.{starts_with}
use Rattle.std.specs.Option.{option_map_or}
use Rattle.ep_explain.specs.Guess.{IsText, is_utf16}

-- what stands behind the first line; all of it where no line feed ends that
abbrev pub behind_line : List ℕ → List ℕ
behind_line bytes = option_map_or (λ place. drop (place + 1) bytes) (position (λ b. b == 10) bytes) bytes

-- what stands behind the line of an edition, if the text begins by one
abbrev pub behind_edition : List ℕ → List ℕ
behind_edition bytes = if starts_with nat_eq bytes (codes "version ") then behind_line bytes else bytes

-- nothing, a text in UTF-16, or a text
abbrev pub IsOtherInput : List ℕ → Type 0
IsOtherInput bytes = (bytes ≡ []) ⊎ IsTrue (is_utf16 bytes) ⊎ IsText bytes
