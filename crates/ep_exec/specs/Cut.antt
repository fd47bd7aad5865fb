-- What is committed, without the dependencies that a walk skips.
use Rattle.std.specs.Prelude.{ℕ, List, Option, Some, None, Bool, false, filter}
use Rattle.ep_base.specs.declared.attrs.Attrs.{Attrs}
use Rattle.ep_rules.specs.Graph.{Graph}
use Rattle.ep_rules.specs.Maps.{Map}
use Rattle.ep_rules.specs.States.{graph_in}
use Rattle.ep_rules.specs.declared.record.Record.{Record}
use Rattle.ep_exec.specs.Ready.{is_out, are_in}

abbrev pub cut_attrs : List ℕ → Option Attrs → Option Attrs
cut_attrs skipped None = None
cut_attrs skipped (Some a) = Some (record a { deps = filter (is_out skipped) a.deps })

abbrev pub cut : Graph → List ℕ → Graph
cut g skipped i = cut_attrs skipped (g i)

-- what is committed and not skipped, as a graph
abbrev pub left_in : Map Record → List ℕ → Graph
left_in records skipped = cut (graph_in records) skipped

-- it is committed, and all that it depends on is skipped
abbrev pub is_alone : List ℕ → Option Attrs → Bool
is_alone skipped None = false
is_alone skipped (Some a) = are_in skipped a.deps
