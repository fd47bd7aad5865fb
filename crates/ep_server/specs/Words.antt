-- What the words of the command line say.
use Rattle.std.specs.Prelude.{ℕ, ◌≡◌, ◌⊎◌, ◌*◌, ◌++◌, ◌&&◌, ◌||◌, not, is_some, Bool, true, false, Some, None, codes, decimal}
use Rattle.clap.specs.Matches.{first_value, one_text}
use Rattle.clap.specs.Walk.{Text}
use Rattle.clap.specs.declared.parser.matches.Found.{Found}
use Rattle.ep_server.specs.declared.asks.Asks.{Asks}
use Rattle.ep_server.specs.declared.asks.Asks.TheVariants.{GoOn, New, Take}

-- which numbers the replicas have, in a cluster of which so many may fail
abbrev pub numbers_text : ℕ → Text
numbers_text faults = codes ": it takes a number from 0 to " ++ decimal (2 * faults)

-- an option that takes no word is there, or it isn't, by the text that `clap` has of it
abbrev pub IsFlag : Found → Text → Bool → Type 0
IsFlag found name true = one_text found name ≡ Some (codes "true")
IsFlag found name false = (one_text found name ≡ None) ⊎ (one_text found name ≡ Some (codes "false"))

-- the opening in the file of this name is to be taken
abbrev pub Takes : Text → Asks → Type 0
Takes name GoOn = ⊥
Takes name New = ⊥
Takes name (Take file) = file.now ≡ name

-- whether an option that takes a word is there
abbrev pub has : Found → Text → Bool
has found name = is_some (first_value found name)

-- which options of a node go together: `--log` or `--dir`, and not both; `--take` without `--log` and `--new`
abbrev pub go_together : (log folder take new : Bool) → Bool
go_together log folder take new = (log || folder) && not (log && folder) && not (take && (log || new))
