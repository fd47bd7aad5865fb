-- The lines of folders that lack a generation.
use Rattle.std.specs.Prelude.{ℕ, Bool, cond, List, [], ◌++◌, codes, decimal, map}
use Rattle.ep_folder.specs.declared.generation_folder.GenerationFolder.{GenerationFolder}

-- the generations of which a folder has something
abbrev pub numbers_of : List GenerationFolder → List ℕ
numbers_of held = map (λ one. one.number) held

-- where the generations of a store are
abbrev pub beside_text : List ℕ → Bool → List ℕ
beside_text folder has = cond has (codes "; look into " ++ folder ++ codes "/generations") []

-- it has none
abbrev pub empty_line : List ℕ → Bool → List ℕ
empty_line folder has = folder ++ codes " has no generation" ++ beside_text folder has ++ codes "\n"

-- it has others, from this one to that one
abbrev pub absent_line : List ℕ → ℕ → ℕ → ℕ → List ℕ
absent_line folder g oldest newest = folder ++ (codes " has no generation " ++ decimal g) ++ (codes ": its oldest is " ++ decimal oldest) ++ (codes ", its newest " ++ decimal newest) ++ codes "\n"
