use Rattle.std.proofs.Common.{◌≡◌}
use Rattle.ep_view.specs.Graphs.{begun_below}
use Rattle.ep_view.proofs.beginning.begun.Given as goal

abbrev pub invariant-loop-replica : goal.invariant-loop-replica
invariant-loop-replica l = l.begun ≡ begun_below l.part l.journals l.replica
