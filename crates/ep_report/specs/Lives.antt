-- What a report of version 3 has besides.
use Rattle.std.specs.Prelude.{ℕ, List, [], ◌∷◌, ◌++◌, Option, Some, None, codes, decimal, refl}
use Rattle.std.specs.Coded.{Coded, code_by, coded×, coded_option, coded_ℕ}
use Rattle.ep_base.specs.declared.version.Version.{Version}
use Rattle.ep_base.specs.declared.version_kind.VersionKind.TheVariants.{V1, V2, V3}
use Rattle.ep_journal.specs.Entries.{Collected}
use Rattle.ep_journal.specs.Openings.{opens}
use Rattle.ep_audit.specs.Verdicts.{left_by}
use Rattle.ep_audit.specs.declared.happening.Happening.{Happening}
use Rattle.ep_audit.specs.declared.summary.Summary.{Summary}
use Rattle.ep_exec.specs.Table.{contents_code}
use Rattle.ep_report.specs.Contents.{contents_line}
use Rattle.ep_report.specs.Parts.{instance_text}
use Rattle.ep_audit.specs.contracts.closing.Closing as closing_facts
use Rattle.ep_audit.specs.declared.closing.Closing.{Closing}
use Rattle.ep_rules.specs.OneMap.{Contents}
use Rattle.ep_script.specs.Word.{word_of}

-- a generation: its number, the stamp that its clocks went on from, its first seal, and what the keys have after its history
pub record Life : Type 0 where
  pub generation : ℕ
  pub base_stamp : ℕ
  pub closing : Option Closing
  pub contents : Contents

abbrev pub life_code : Coded Life
life_code =
    code_by (ℕ × (ℕ × (Option Closing × Contents))) (coded× coded_ℕ (coded× coded_ℕ (coded× (coded_option closing_facts.the_row.coded) contents_code)))
    (λ l. (l.generation, (l.base_stamp, (l.closing, l.contents)))) (λ p. record { generation = p.0; base_stamp = p.1.0; closing = p.1.1.0; contents = p.1.1.1 }) (λ _. refl)

abbrev pub generation_line : Life → List ℕ
generation_line l = codes "generation " ++ decimal l.generation ++ codes " since " ++ decimal l.base_stamp

-- the seal that closed the map
abbrev pub closed_line : Closing → List ℕ
closed_line c = codes "closed " ++ instance_text c.instance ++ codes " " ++ word_of c.value ++ codes " stamp " ++ decimal c.stamp

-- or that none did
abbrev pub closing_line : Option Closing → List ℕ
closing_line None = codes "open"
closing_line (Some c) = closed_line c

-- below the verdict
abbrev pub generation_lines : Option Life → List (List ℕ)
generation_lines None = []
generation_lines (Some l) = generation_line l ∷ []

-- below the history
abbrev pub closing_lines : Option Life → List (List ℕ)
closing_lines None = []
closing_lines (Some l) = closing_line l.closing ∷ contents_line l.contents ∷ []

-- a generation of a chain: how many instances it commits, and how many commands its history has
abbrev pub link_line : Life → ℕ → ℕ → List ℕ
link_line l committed history =
    generation_line l ++ codes " committed " ++ decimal committed ++ codes " history " ++ decimal history ++ codes " " ++ closing_line l.closing ++ codes " " ++ contents_line l.contents

-- What journals and their history say of it.

-- of the generation g, whose clocks went on from the stamp since, the first seal of its history, and the map that this leaves
abbrev pub life_with : ℕ → ℕ → Option Closing → Contents → Life
life_with g base_stamp closing m = record { generation = g; base_stamp = base_stamp; closing = closing; contents = m }

abbrev pub life_at : Version → ℕ → Option Closing → Contents → Option Life
life_at V1 base_stamp closing m = None
life_at V2 base_stamp closing m = None
life_at (V3 g) base_stamp closing m = Some (life_with g base_stamp closing m)

-- of these journals, where this is the map that a report shows
abbrev pub life_reported : Collected → Option Closing → Option Contents → Option Life
life_reported c closing None = None
life_reported c closing (Some m) = life_at c.version c.opening.base_stamp closing m

-- the map that a report shows; versions 1 and 2 show none
abbrev pub reported_at : Version → Contents → Option Contents
reported_at V1 m = None
reported_at V2 m = None
reported_at (V3 g) m = Some m

-- of these journals, with this history
abbrev pub reported_in : Collected → List Happening → Option Contents
reported_in c lines = reported_at c.version (left_by (opens c.opening) lines)

-- what they say of their generation; versions 1 and 2 have none
abbrev pub life_in : Collected → Summary → Option Life
life_in c s = life_reported c s.closing (reported_in c s.history.items)
