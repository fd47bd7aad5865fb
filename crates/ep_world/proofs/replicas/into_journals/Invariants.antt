use Rattle.ep_world.specs.Replicas.{AreTheirs}
use Rattle.ep_world.proofs.replicas.into_journals.Given as goal

abbrev pub invariant-loop-replica : goal.invariant-loop-replica
invariant-loop-replica l = AreTheirs l.yielded l.journals.items
