use Rattle.std.proofs.Common.{◌≡◌}
use Rattle.ep_rules.specs.Phases.{join_all}
use Rattle.ep_phase.proofs.counting.join_all.Given as goal

abbrev pub invariant-loop-r : goal.invariant-loop-r
invariant-loop-r l = l.all ≡ join_all l.r l.answers l.initial.all
