use Rattle.std.proofs.Common.{ℕ, ◌<◌, drop}
use Rattle.ep_replica.specs.FirstExecutions.{HavePlaces}
use Rattle.ep_replica.proofs.first_executions.top_of.Given as goal

abbrev pub invariant-loop-instance : goal.invariant-loop-instance
invariant-loop-instance l = (me places : ℕ) → l.top < places → HavePlaces me places (drop l.instance-index l.done) → HavePlaces me places l.done
