-- Names in the folder of a replica that lives through generations.
use Rattle.std.specs.Prelude.{ℕ, suc, List, [], ◌∷◌, ◌++◌, codes, decimal, cond, eqb, Option, Some, None}
use Rattle.ep_script.specs.Grammar.{number_in}

-- FOLDER/G
abbrev pub generation_path : List ℕ → ℕ → List ℕ
generation_path folder g = folder ++ codes "/" ++ decimal g

-- FOLDER/G/NAME
abbrev pub file_path : List ℕ → ℕ → List ℕ → List ℕ
file_path folder g name = generation_path folder g ++ codes "/" ++ name

-- the generation that a name spells: in decimal, and its first digit isn't 0
abbrev pub generation_in : List ℕ → Option ℕ
generation_in [] = None
generation_in (b ∷ bs) = cond (eqb b 48) None (number_in 1 4294967295 (b ∷ bs))

-- what a number is; where there is none, the greatest
abbrev pub or_last : Option ℕ → ℕ
or_last None = 4294967295
or_last (Some g) = g

-- the later generation that the mark of generation g names; what can't be read stands for every later one
abbrev pub left_in : List ℕ → ℕ → ℕ
left_in bytes g = or_last (number_in (suc g) 4294967295 bytes)
