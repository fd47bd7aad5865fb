-- What is reported of what journals are of, and of what they begin with.
use Rattle.std.specs.Prelude.{ℕ, List, [], ◌++◌, codes, decimal}
use Rattle.ep_base.specs.declared.version.Version.{Version}
use Rattle.ep_base.specs.declared.version_kind.VersionKind.TheVariants.{V1, V2, V3}
use Rattle.ep_journal.specs.Openings.{Opening}
use Rattle.ep_report.specs.Contents.{contents_text}

-- version 3 with its generation
unfoldable pub generation_text : ℕ → List ℕ
generation_text g = codes "version 3 generation " ++ decimal g

-- the stamp that the clocks go on from, and how many keys there are, with the digest of what they have
abbrev pub opening_text : Opening → List ℕ
opening_text o = codes " since " ++ decimal o.base_stamp ++ codes " opening " ++ contents_text o.contents

-- a generation, and what it begins with
abbrev pub edition_text : ℕ → Opening → List ℕ
edition_text g o = generation_text g ++ opening_text o

-- the line that begins what is reported of journals; those of versions 1 and 2 have none
abbrev pub edition_line : Version → Opening → List ℕ
edition_line V1 o = []
edition_line V2 o = []
edition_line (V3 g) o = edition_text g o ++ codes "\n"
