use Rattle.std.proofs.Common.{◌≡◌, drop}
use Rattle.ep_view.specs.Graphs.{some_between}
use Rattle.ep_view.proofs.edges.some_between.Given as goal

abbrev pub invariant-loop-middle : goal.invariant-loop-middle
invariant-loop-middle l = some_between l.journals (drop l.middle-index l.near) l.instance l.low l.high ≡ some_between l.journals l.near l.instance l.low l.high
