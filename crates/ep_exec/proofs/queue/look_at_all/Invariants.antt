use Rattle.std.proofs.Common.{ℕ, List, length}
use Rattle.ep_rules.specs.Graph.{Graph}
use Rattle.ep_exec.specs.Queue.{ready_at, waiting_at, Stands}
use Rattle.ep_exec.proofs.queue.look_at_all.Given as goal

abbrev pub invariant-loop-part : goal.invariant-loop-part
invariant-loop-part l =
    (g : Graph) (all left : List ℕ) → Stands g l.executed.list all l.finished l.fn.parts.items left (ready_at l.fn.queue.ready) (waiting_at l.fn.queue.waiters) → Stands g l.executed.list all l.finished l.parts.items left (ready_at l.queue.ready) (waiting_at l.queue.waiters)

abbrev pub decreases-loop-part : goal.decreases-loop-part
decreases-loop-part l = length l.parts.items
