use Rattle.std.proofs.Common.{◌+◌, ◌-◌, ◌≡◌, ◌≤◌}
use Rattle.ep_replica.proofs.Trying.{AllWait}
use Rattle.ep_replica.proofs.replica.Replica.try_next.Given as goal

abbrev pub invariant-loop-number : goal.invariant-loop-number
invariant-loop-number l = record {
  range : (1 ≤ l.number) × (l.number ≤ 9001);
  same : l.self ≡ l.fn.self;
  wait : AllWait l.fn.self l.number;
}

abbrev pub decreases-loop-number : goal.decreases-loop-number
decreases-loop-number l = 9000 + 1 - l.number
