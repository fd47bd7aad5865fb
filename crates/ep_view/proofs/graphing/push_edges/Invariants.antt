use Rattle.std.proofs.Common.{◌≡◌, ◌++◌, drop}
use Rattle.ep_view.specs.Graphs.{edges_text}
use Rattle.ep_view.proofs.graphing.push_edges.Given as goal

abbrev pub invariant-loop-to : goal.invariant-loop-to
invariant-loop-to l = l.text.items ++ edges_text l.from (drop l.to-index l.all) ≡ l.initial.text.items ++ edges_text l.from l.all
