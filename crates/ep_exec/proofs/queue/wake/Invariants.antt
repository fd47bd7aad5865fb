use Rattle.std.proofs.Common.{ℕ, List, [], drop}
use Rattle.ep_rules.specs.Graph.{Graph}
use Rattle.ep_exec.specs.Queue.{ready_at, waiting_at, Stands}
use Rattle.ep_exec.proofs.queue.wake.Given as goal

abbrev pub invariant-loop-instance : goal.invariant-loop-instance
invariant-loop-instance l =
    (g : Graph) (all : List ℕ) → Stands g l.executed.list all l.finished [] l.list (ready_at l.fn.queue.ready) (waiting_at l.fn.queue.waiters) → Stands g l.executed.list all l.finished [] (drop l.instance-index l.list) (ready_at l.queue.ready) (waiting_at l.queue.waiters)
