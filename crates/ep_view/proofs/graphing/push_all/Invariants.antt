use Rattle.std.proofs.Common.{◌≡◌, ◌++◌, drop}
use Rattle.ep_view.specs.Graphs.{lines_in}
use Rattle.ep_view.proofs.graphing.push_all.Given as goal

abbrev pub invariant-loop-instance : goal.invariant-loop-instance
invariant-loop-instance l = l.text.items ++ lines_in l.journals l.history l.kept (drop l.instance-index l.instances) ≡ l.initial.text.items ++ lines_in l.journals l.history l.kept l.instances
