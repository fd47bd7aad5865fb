-- What the lines of a script say together. Of each kind of script, `begins` gives the script P without lines that has this head; `takes` gives the script
-- that a line makes of the one before it, by its number and its words, none where the line is refused.
use Rattle.std.specs.Prelude.{ℕ, ◌+◌, ◌==◌, ◌&&◌, nat_le, Bool, List, [], ◌∷◌, ◌++◌, Option, Some, None, Result, Ok, Err, length, if◌then◌else◌, codes, option_map, option_and_then}
use Rattle.std.specs.List.{list_any}
use Rattle.std.specs.Option.{option_map_or}
use Rattle.std.specs.Str.Lines.{strip_carriage_return}
use Rattle.ep_base.specs.Quorums.{size as size_with}
use Rattle.ep_script.specs.Parts.{words_of}
use Rattle.ep_script.specs.Grammar.{starts_comment, starts_with, size_of, generation_of, is_opening, opening_of, replay_line, run_line}
use Rattle.ep_script.specs.Heads.{Head, OpenHead, first_head, open_head, head_of, after_opening}
use Rattle.ep_script.specs.RawLines.{raw_lines}
use Rattle.ep_script.specs.declared.agenda_line.AgendaLine.{AgendaLine}
use Rattle.ep_script.specs.declared.line.Line.{Line}
use Rattle.ep_script.specs.declared.run_line.RunLine.{RunLine}
use Rattle.ep_script.specs.declared.run_line.RunLine.TheVariants.{Agenda, Weather, Section}
use Rattle.ep_script.specs.declared.stage.Stage.{Stage}
use Rattle.ep_script.specs.declared.stage.Stage.TheVariants.{Before, Sized, Opening, Within}
use Rattle.ep_script.specs.declared.weather_line.WeatherLine.{WeatherLine}

-- the first line behind the head
abbrev pub begun : {P : Type 0} → (Head → P) → (ℕ → P → List (List ℕ) → Option P) → ℕ → Head → List (List ℕ) → Option (Stage P)
begun begins takes n h ws = option_map (λ p. Within p) (takes n (begins h) ws)

-- the line behind `replicas N`: `generation G`, or the first one behind the head of a script of version 2
abbrev pub sized_said : {P : Type 0} → (Head → P) → (ℕ → P → List (List ℕ) → Option P) → ℕ → ℕ → List (List ℕ) → Option (Stage P)
sized_said begins takes n f ws = if starts_with (codes "generation") ws then option_map (λ g. Opening (open_head f g)) (generation_of ws) else begun begins takes n (first_head f) ws

-- a line behind `generation G`: one of what the replicas open with, or the first one behind the head
abbrev pub opening_said : {P : Type 0} → (Head → P) → (ℕ → P → List (List ℕ) → Option P) → ℕ → OpenHead → List (List ℕ) → Option (Stage P)
opening_said begins takes n h ws = if is_opening ws then option_map (λ o. Opening o) (option_and_then (after_opening h) (opening_of ws)) else begun begins takes n (head_of h) ws

-- what line n, with these words, makes of the lines before it; none where it is refused
abbrev pub said : {P : Type 0} → (Head → P) → (ℕ → P → List (List ℕ) → Option P) → ℕ → Stage P → List (List ℕ) → Option (Stage P)
said begins takes n Before ws = option_map (λ f. Sized f) (size_of ws)
said begins takes n (Sized f) ws = sized_said begins takes n f ws
said begins takes n (Opening h) ws = opening_said begins takes n h ws
said begins takes n (Within p) ws = option_map (λ q. Within q) (takes n p ws)

abbrev pub words_step : {P : Type 0} → (Head → P) → (ℕ → P → List (List ℕ) → Option P) → ℕ → Stage P → List (List ℕ) → Option (Stage P)
words_step begins takes n p [] = Some p
words_step begins takes n p (w ∷ ws) = if starts_comment w then Some p else said begins takes n p (w ∷ ws)

-- a line has at most 8,192 bytes, not counting one carriage return at its end
abbrev pub line_step : {P : Type 0} → (Head → P) → (ℕ → P → List (List ℕ) → Option P) → ℕ → Stage P → List ℕ → Option (Stage P)
line_step begins takes n p line =
    let l = strip_carriage_return line in
    if nat_le (length l) 8192 then words_step begins takes n p (words_of l) else None

-- the script is over before line n; one that isn't behind its head has no lines
abbrev pub ended : {P : Type 0} → (Head → P) → ℕ → Stage P → Result P ℕ
ended begins n Before = Err n
ended begins n (Sized f) = Ok (begins (first_head f))
ended begins n (Opening h) = Ok (begins (head_of h))
ended begins n (Within p) = Ok p

-- it isn't the head of a script alone
abbrev pub IsNoHead : {P : Type 0} → Stage P → Type 0
IsNoHead Before = Unit {0}
IsNoHead (Sized f) = ⊥
IsNoHead (Opening h) = ⊥
IsNoHead (Within p) = Unit {0}

-- the lines from number n on: the whole script, or the number of the first line at fault
abbrev pub reads : {P : Type 0} → (Head → P) → (ℕ → P → List (List ℕ) → Option P) → ℕ → Stage P → List (List ℕ) → Result P ℕ
reads begins takes n p [] = ended begins n p
reads begins takes n p (l ∷ ls) = if nat_le n 100000 then option_map_or (λ q. reads begins takes (n + 1) q ls) (line_step begins takes n p l) (Err n) else Err n

-- what the bytes of a script say
abbrev pub read_of : {P : Type 0} → (Head → P) → (ℕ → P → List (List ℕ) → Option P) → List ℕ → Result P ℕ
read_of begins takes zs = reads begins takes 1 Before (raw_lines zs)

-- a script for a replay: its head, and the lines behind it that aren't skipped, each with its number
pub record Plan : Type 0 where
  pub head : Head
  pub lines : List (ℕ × Line)

abbrev pub no_lines : Head → Plan
no_lines h = record { head = h; lines = [] }

abbrev pub with_line : ℕ → Plan → List (List ℕ) → Option Plan
with_line n p ws = option_map (λ l. record { head = p.head; lines = p.lines ++ (n, l) ∷ [] }) (replay_line (size_with p.head.faults) p.head.version ws)

-- what the bytes of a script for a replay say
abbrev pub script_of : List ℕ → Result Plan ℕ
script_of zs = read_of no_lines with_line zs

-- a section: the lines of its agendas, each with its number, and those of its weather
pub record SectionPlan : Type 0 where
  pub lines : List (ℕ × AgendaLine)
  pub weather : List WeatherLine

abbrev pub no_section : SectionPlan
no_section = record { lines = []; weather = [] }

abbrev pub with_agenda : ℕ → AgendaLine → SectionPlan → SectionPlan
with_agenda n l s = record { lines = s.lines ++ (n, l) ∷ []; weather = s.weather }

abbrev pub with_weather : WeatherLine → SectionPlan → SectionPlan
with_weather w s = record { lines = s.lines; weather = s.weather ++ w ∷ [] }

-- two lines of a weather are for one frame
abbrev pub same_frame : WeatherLine → WeatherLine → Bool
same_frame v w = (v.from == w.from) && (v.to == w.to) && (v.count == w.count)

-- the section has a line of its weather for the frame of this one
abbrev pub has_frame : WeatherLine → SectionPlan → Bool
has_frame w s = list_any (same_frame w) s.weather

-- a script for a run: its head, and its sections
pub record RunPlan : Type 0 where
  pub head : Head
  pub sections : List SectionPlan

-- the first lines of a script for a run: its head, the sections that have ended, and the one that hasn't
pub record OpenPlan : Type 0 where
  pub head : Head
  pub ended : List SectionPlan
  pub current : SectionPlan

abbrev pub no_sections : Head → OpenPlan
no_sections h = record { head = h; ended = []; current = no_section }

abbrev pub with_current : OpenPlan → SectionPlan → OpenPlan
with_current p s = record { head = p.head; ended = p.ended; current = s }

-- line n of the script says this. A line `section` ends a section; a second line of a section's weather for one frame is refused
abbrev pub after_line : ℕ → OpenPlan → RunLine → Option OpenPlan
after_line n p (Agenda l) = Some (with_current p (with_agenda n l p.current))
after_line n p (Weather w) = if has_frame w p.current then None else Some (with_current p (with_weather w p.current))
after_line n p Section = Some (record { head = p.head; ended = p.ended ++ p.current ∷ []; current = no_section })

abbrev pub with_run_line : ℕ → OpenPlan → List (List ℕ) → Option OpenPlan
with_run_line n p ws = option_and_then (after_line n p) (run_line (size_with p.head.faults) p.head.version ws)

-- what follows the last line `section` is a section if it has a line
abbrev pub last_section : List (ℕ × AgendaLine) → List WeatherLine → List SectionPlan
last_section [] [] = []
last_section (l ∷ ls) ws = (record { lines = l ∷ ls; weather = ws }) ∷ []
last_section [] (w ∷ ws) = (record { lines = []; weather = w ∷ ws }) ∷ []

abbrev pub closed : OpenPlan → RunPlan
closed p = record { head = p.head; sections = p.ended ++ last_section p.current.lines p.current.weather }

abbrev pub run_of_open : Result OpenPlan ℕ → Result RunPlan ℕ
run_of_open (Ok p) = Ok (closed p)
run_of_open (Err n) = Err n

-- what the bytes of a script for a run say
abbrev pub run_of : List ℕ → Result RunPlan ℕ
run_of zs = run_of_open (read_of no_sections with_run_line zs)
