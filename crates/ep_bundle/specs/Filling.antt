-- Filling a buffer from a source.
use Rattle.std.specs.Prelude.{◌≡◌, ℕ, ◌≤◌, ◌<◌, Bool, true, false, List, [], ◌++◌, length, take, Option, Some}

-- of the bytes zs the buffer has the first ones and the source has the rest; or they are too few, and the source has none
abbrev pub Fills : Bool → List ℕ → List ℕ → Option (List ℕ) → Type 0
Fills true zs buf left = (ys : List ℕ) × (left ≡ Some ys) × (zs ≡ buf ++ ys)
Fills false zs buf left = (length zs < length buf) × (left ≡ Some [])

-- of the bytes zs these came first, and the source has the rest
abbrev pub Begun : List ℕ → List ℕ → Option (List ℕ) → Type 0
Begun zs bs left = (ys : List ℕ) × (left ≡ Some ys) × (zs ≡ bs ++ ys)

-- of the bytes zs the buffer has the first n, and the source has the rest: none, where the buffer isn't full
abbrev pub FillsTo : ℕ → List ℕ → List ℕ → Option (List ℕ) → Type 0
FillsTo n zs buf left = (n ≤ length buf) × Begun zs (take n buf) left × (n < length buf → left ≡ Some [])
