use Rattle.ep_audit.specs.Proposing.{AreRows}
use Rattle.ep_audit.proofs.proposals.Proposals.of.Given as goal

abbrev pub invariant-loop-replica : goal.invariant-loop-replica
invariant-loop-replica l = AreRows l.journals l.replica l.rows.items
