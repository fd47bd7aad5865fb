-- The lines of some bytes, and what reading one answers.
use Rattle.std.specs.Prelude.{◌≡◌, ℕ, ◌<◌, ◌≤◌, ◌==◌, List, [], ◌∷◌, Option, Some, None, length, map}
use Rattle.std.specs.Borrow.{Bor}
use Rattle.std.specs.List.{slice_split}
use Rattle.std.specs.Str.Lines.{strip_carriage_return}
use Rattle.ep_script.specs.Window.{HasLeft}
use Rattle.ep_script.specs.declared.got.Got.{Got}
use Rattle.ep_script.specs.declared.got.Got.TheVariants.{Line, End, TooLong}

-- parts that line feeds separate, of which an empty last one is no line
abbrev pub lines_of_parts : List (List ℕ) → List (List ℕ)
lines_of_parts [] = []
lines_of_parts ([] ∷ []) = []
lines_of_parts ((b ∷ bs) ∷ []) = (b ∷ bs) ∷ []
lines_of_parts (x ∷ y ∷ more) = x ∷ lines_of_parts (y ∷ more)

-- lines end by a line feed, which the last one may lack
abbrev pub raw_lines : List ℕ → List (List ℕ)
raw_lines zs = lines_of_parts (slice_split (λ b. b == 10) zs)

-- each without one carriage return at its end
abbrev pub bare_lines : List ℕ → List (List ℕ)
bare_lines zs = map strip_carriage_return (raw_lines zs)

-- the first of them was read, and these bytes are left; or there is none
abbrev pub IsNextLine : List ℕ → List ℕ → Option (Bor (List ℕ)) → Type 0
IsNextLine zs rest None = (bare_lines zs ≡ []) × (bare_lines rest ≡ [])
IsNextLine zs rest (Some line) = bare_lines zs ≡ line.now ∷ bare_lines rest

-- the longest that a line can be with a carriage return
abbrev pub longest : ℕ
longest = 8193

-- of the bytes zs the first line was read, or there was none, or it is too long
abbrev pub GotOf : Got → List ℕ → List ℕ → List ℕ → Option (List ℕ) → Type 0
GotOf Line zs line window left = (rest : List ℕ) × (raw_lines zs ≡ line ∷ raw_lines rest) × (length line ≤ longest) × HasLeft window left rest
GotOf End zs line window left = zs ≡ []
GotOf TooLong zs line window left = (l : List ℕ) × (ls : List (List ℕ)) × (raw_lines zs ≡ l ∷ ls) × (longest < length l)
