use Rattle.std.proofs.Common.{◌≡◌}
use Rattle.ep_view.specs.Wanted.{taken_below}
use Rattle.ep_view.proofs.wanted.Wanted.taken.Given as goal

abbrev pub invariant-loop-replica : goal.invariant-loop-replica
invariant-loop-replica l = l.taken ≡ taken_below l.self.key l.self.client l.journals l.replica
