-- How far a line has been read.
use Rattle.std.specs.Prelude.{◌≡◌, ℕ, ◌<◌, ◌≤◌, ◌==◌, Bool, false, List, ◌∷◌, ◌++◌, length, Option, All, MatchBool}
use Rattle.ep_script.specs.RawLines.{longest}
use Rattle.ep_script.specs.Window.{HasLeft}

abbrev pub IsNoFeed : ℕ → Type 0
IsNoFeed b = (b == 10) ≡ false

-- of the bytes zs these were read, with no line feed among them
abbrev pub SoFar : List ℕ → List ℕ → List ℕ → Option (List ℕ) → Type 0
SoFar zs line window left = (rest : List ℕ) × (zs ≡ line ++ rest) × HasLeft window left rest × All IsNoFeed line

-- some bytes, none a line feed, went from the window to the line; then either a feed was taken and the line isn't too long, or the line grew
abbrev pub TakesRun : Bool → List ℕ → List ℕ → List ℕ → List ℕ → Type 0
TakesRun fed window window' line line' = (run : List ℕ) × (line' ≡ line ++ run) × All IsNoFeed run
    × MatchBool fed ((window ≡ run ++ 10 ∷ window') × (length line' ≤ longest)) ((window ≡ run ++ window') × (0 < length run))
