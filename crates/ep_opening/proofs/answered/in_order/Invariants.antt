use Rattle.ep_base.specs.Instances.{instance_of}
use Rattle.ep_opening.specs.Gathering.{AreBelow}
use Rattle.ep_opening.proofs.answered.in_order.Given as goal

abbrev pub invariant-loop-index : goal.invariant-loop-index
invariant-loop-index l = AreBelow l.set.list (instance_of l.index 1) l.list
