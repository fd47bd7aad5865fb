use Rattle.std.proofs.Common.{◌≡◌, ◌++◌, drop}
use Rattle.ep_space.specs.Gathering.{recorded_in}
use Rattle.ep_space.proofs.gathered.instances_of.Given as goal

abbrev pub invariant-loop-id : goal.invariant-loop-id
invariant-loop-id l = l.all.items ++ recorded_in (drop l.id-index l.entries) ≡ recorded_in l.entries
