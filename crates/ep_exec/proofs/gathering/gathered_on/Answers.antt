use Rattle.ep_exec.proofs.gathering.gathered_on.Goals as goal

pub loop-left-preserved-then-gather_one : goal.loop-left-preserved-then-gather_one
loop-left-preserved-then-gather_one c = λ since was. c.gather_one.ensures since (c.loop-left.invariant since was)

pub loop-left-preserved : goal.loop-left-preserved
loop-left-preserved c = λ since was. c.gather_one.ensures since (c.loop-left.invariant since was)
