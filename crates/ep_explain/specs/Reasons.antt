-- Lines, and the reasons under them.
use Rattle.std.specs.Prelude.{ℕ, Bool, true, false, cond, eqb, List, ◌∷◌, ◌++◌, codes, filter, map}

-- no line feed
abbrev pub is_plain : ℕ → Bool
is_plain b = cond (eqb b 10) false true

-- a reason is one indented line, whatever its words
abbrev pub reason_line : List ℕ → List ℕ
reason_line words = codes "  " ++ filter is_plain words

-- a line, and its reasons under it
abbrev pub section : List ℕ → List (List ℕ) → List (List ℕ)
section line reasons = line ∷ map reason_line reasons
