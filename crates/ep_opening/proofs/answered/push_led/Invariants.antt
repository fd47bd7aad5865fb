use Rattle.ep_base.specs.Instances.{instance_of}
use Rattle.ep_opening.specs.Gathering.{AreBelow}
use Rattle.ep_opening.proofs.answered.push_led.Given as goal

abbrev pub invariant-loop-number : goal.invariant-loop-number
invariant-loop-number l = AreBelow l.set.list (instance_of l.leader l.number) l.list
