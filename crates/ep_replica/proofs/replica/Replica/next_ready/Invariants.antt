use Rattle.std.proofs.Common.{◌≤◌}
use Rattle.ep_replica.proofs.Trying.{NoneBelow}
use Rattle.ep_replica.proofs.replica.Replica.next_ready.Given as goal

abbrev pub invariant-loop-number : goal.invariant-loop-number
invariant-loop-number l = record {
  some : 1 ≤ l.number;
  none : NoneBelow l.self l.after l.number;
}
