-- What is reported of the bytes of a script.
use Rattle.std.specs.Prelude.{◌≡◌, ℕ, Bool, true, false, List, [], ◌∷◌, ◌++◌, Option, Some, None, Result, Ok, Err, codes, decimal}
use Rattle.ep_report.specs.Reports.{text_of}
use Rattle.ep_script.specs.Plan.{script_of, run_of}
use Rattle.ep_explain.specs.Reasons.{section}
use Rattle.ep_explain.specs.declared.subcommand.Subcommand.{Subcommand}
use Rattle.ep_explain.specs.declared.subcommand.Subcommand.TheVariants.{Replay, Run}

abbrev pub line_refused : {P : Type 0} → Result P ℕ → Option ℕ
line_refused (Ok script) = None
line_refused (Err line) = Some line

-- the line at which the reader of the subcommand's scripts refuses these bytes; none where it reads them
abbrev pub refused_at : Subcommand → List ℕ → Option ℕ
refused_at Replay bytes = line_refused (script_of bytes)
refused_at Run bytes = line_refused (run_of bytes)

abbrev pub script_read : Subcommand → List ℕ
script_read Replay = codes "script read, for replay"
script_read Run = codes "script read, for run"

-- the reader's line
abbrev pub script_refused : ℕ → List ℕ
script_refused line = codes "script refused at line " ++ decimal line

-- the first reason names the line
abbrev pub at_line : ℕ → List ℕ → List ℕ
at_line line words = codes "line " ++ decimal line ++ words

-- behind the line of a script for run alone stands which line of it `replay` refuses
abbrev pub AreNotes : Subcommand → List (List ℕ) → Type 0
AreNotes Replay notes = notes ≡ []
AreNotes Run notes = (why : List ℕ) × (notes ≡ (codes "replay refuses line " ++ why) ∷ [])

-- a script that is read, or the line that is refused and reasons, of which the first one names it
abbrev pub IsAdvice : Subcommand → Option ℕ → Bool → List ℕ → Type 0
IsAdvice subcommand None is_read text = (is_read ≡ true) × (notes : List (List ℕ)) × AreNotes subcommand notes × (text ≡ text_of (section (script_read subcommand) notes))
IsAdvice subcommand (Some line) is_read text =
    (is_read ≡ false) × (words : List ℕ) × (more : List (List ℕ)) × (text ≡ text_of (section (script_refused line) (at_line line words ∷ more)))
