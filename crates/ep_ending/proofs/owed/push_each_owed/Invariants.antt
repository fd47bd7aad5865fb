use Rattle.ep_base.specs.Instances.{instance_of}
use Rattle.ep_ending.specs.Endings.{AddsOwedBefore}
use Rattle.ep_ending.proofs.owed.push_each_owed.Given as goal

abbrev pub invariant-loop-replica : goal.invariant-loop-replica
invariant-loop-replica l = AddsOwedBefore l.journals (instance_of l.replica 0) l.initial.text.items l.text.items
