-- Where a number stands in a list.
use Rattle.std.specs.Prelude.{ℕ, suc, ◌<◌, List, [], ◌∷◌, length, ◌==◌, if◌then◌else◌}

-- the place of its first occurrence, or the list's length where it has none
abbrev pub place : List ℕ → ℕ → ℕ
place [] i = 0
place (x ∷ xs) i = if x == i then 0 else suc (place xs i)

abbrev pub Has : List ℕ → ℕ → Type 0
Has xs i = place xs i < length xs
