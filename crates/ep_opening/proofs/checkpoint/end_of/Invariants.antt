use Rattle.std.proofs.Common.{◌-◌, length}
use Rattle.ep_opening.proofs.Short.{HaveRoom}
use Rattle.ep_opening.proofs.checkpoint.end_of.Given as goal

abbrev pub invariant-loop-rest : goal.invariant-loop-rest
invariant-loop-rest l = HaveRoom l.fn.pairs l.fn.start l.end l.left l.fn.room

abbrev pub decreases-loop-rest : goal.decreases-loop-rest
decreases-loop-rest l = length l.fn.pairs - l.end
