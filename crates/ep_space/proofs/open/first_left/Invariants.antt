use Rattle.std.proofs.Common.{◌≡◌, drop}
use Rattle.ep_space.specs.Open.{first_left}
use Rattle.ep_space.proofs.open.first_left.Given as goal

abbrev pub invariant-loop-id : goal.invariant-loop-id
invariant-loop-id l = first_left l.space.records l.after (drop l.id-index l.list) ≡ first_left l.space.records l.after l.list
