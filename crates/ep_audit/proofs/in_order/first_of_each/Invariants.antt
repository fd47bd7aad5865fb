use Rattle.ep_journal.specs.Entries.{journals_of}
use Rattle.ep_audit.specs.Turns.{all_taken, AreFirst}
use Rattle.ep_audit.proofs.in_order.first_of_each.Given as goal

abbrev pub invariant-loop-replica : goal.invariant-loop-replica
invariant-loop-replica l = AreFirst l.replica (all_taken l.all (journals_of l.journals)) l.turns.items
