-- Texts in columns of 32 bytes, one for each replica, with two blanks between two.
use Rattle.std.specs.Prelude.{◌≡◌, ◌≢◌, ℕ, ◌+◌, ◌*◌, ◌<◌, ◌≤◌, List, [], ◌∷◌, ◌++◌, length, take, drop, replicate, slice_index, ◌⊎◌}

-- where a row may end, and the next one begin, by the places below n: the last space that isn't first stands between
-- them, or else the row fills the column
abbrev pub IsCutBelow : ℕ → List ℕ → ℕ × ℕ → Type 0
IsCutBelow n text cut =
    ((cut ≡ (32, 32)) × ((k : ℕ) → 1 ≤ k → k < n → slice_index text k ≢ 32))
    ⊎ ((cut.1 ≡ cut.0 + 1) × (1 ≤ cut.0) × (cut.0 < n) × (slice_index text cut.0 ≡ 32)
    × ((k : ℕ) → cut.0 < k → k < n → slice_index text k ≢ 32))

-- a row is as wide as the column at most
abbrev pub IsCut : List ℕ → ℕ × ℕ → Type 0
IsCut text cut = IsCutBelow 33 text cut

-- the first row of a text, and what is left of it
pub record IsFirstRow (text row rest : List ℕ) : Type 0 where
  pub narrow : length text ≤ 32 → (row ≡ text) × (rest ≡ [])
  pub wide : 32 < length text → (cut : ℕ × ℕ) × IsCut text cut × (row ≡ take cut.0 text) × (rest ≡ drop cut.1 text)

-- a row in the column of a replica
abbrev pub row_text : ℕ → List ℕ → List ℕ
row_text replica row = replicate (replica * 34) 32 ++ row ++ 10 ∷ []
