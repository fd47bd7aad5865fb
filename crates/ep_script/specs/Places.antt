-- Where a slice is cut.
use Rattle.std.specs.Prelude.{◌≡◌, ℕ, Bool, false, List, [], ◌∷◌}

-- it is empty, or its first byte doesn't pass
abbrev pub BeginsWithout : (ℕ → Bool) → List ℕ → Type 0
BeginsWithout p [] = Unit {0}
BeginsWithout p (b ∷ bs) = p b ≡ false
