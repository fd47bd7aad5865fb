use Rattle.ep_ending.specs.Endings.{IsLeastBelow}
use Rattle.ep_ending.proofs.opened.next_open.Given as goal

abbrev pub invariant-loop-replica : goal.invariant-loop-replica
invariant-loop-replica l = IsLeastBelow l.journals l.after l.replica l.found
