use Rattle.std.proofs.Common.{take}
use Rattle.ep_replica.specs.FirstExecutions.{AreFirsts}
use Rattle.ep_replica.proofs.first_executions.FirstExecutions.of.Given as goal

abbrev pub invariant-loop-place : goal.invariant-loop-place
invariant-loop-place l = AreFirsts l.me (take l.place l.entries) l.firsts
