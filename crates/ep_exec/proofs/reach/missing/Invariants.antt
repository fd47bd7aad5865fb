use Rattle.std.proofs.Common.{◌+◌, ◌∷◌, length}
use Rattle.ep_rules.specs.States.{graph_in}
use Rattle.ep_exec.specs.Cut.{left_in}
use Rattle.ep_exec.proofs.OverMap.{universe}
use Rattle.ep_exec.proofs.Searching.{IsSearch}
use Rattle.ep_exec.proofs.Size.{weight}
use Rattle.ep_exec.proofs.reach.missing.Given as goal

abbrev pub invariant-loop-instance : goal.invariant-loop-instance
invariant-loop-instance l = IsSearch (graph_in l.space.records) l.executed.list (universe l.space.records) l.fn.root l.seen l.edges.items

abbrev pub decreases-loop-instance : goal.decreases-loop-instance
decreases-loop-instance l = weight (left_in l.space.records l.executed.list) l.seen (l.fn.root ∷ universe l.space.records) + length l.edges.items
