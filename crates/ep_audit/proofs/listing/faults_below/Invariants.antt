use Rattle.std.proofs.Common.{◌≡◌}
use Rattle.ep_audit.specs.Listed.{faults_below}
use Rattle.ep_audit.proofs.listing.faults_below.Given as goal

abbrev pub invariant-loop-replica : goal.invariant-loop-replica
invariant-loop-replica l = l.found.items ≡ faults_below l.journals l.replica
