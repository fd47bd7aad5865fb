use Rattle.std.proofs.Common.{◌≡◌}
use Rattle.ep_audit.specs.Handlings.{first_below}
use Rattle.ep_audit.proofs.handlings.first_handling.Given as goal

abbrev pub invariant-loop-replica : goal.invariant-loop-replica
invariant-loop-replica l = l.found ≡ first_below l.journals l.replica
