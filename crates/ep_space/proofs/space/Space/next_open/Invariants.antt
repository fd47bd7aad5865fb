use Rattle.std.proofs.Common.{take}
use Rattle.ep_space.specs.Open.{IsLeastIn}
use Rattle.ep_space.proofs.space.Space.next_open.Given as goal

abbrev pub invariant-loop-id : goal.invariant-loop-id
invariant-loop-id l = IsLeastIn l.self.records l.after (take l.id-index l.entries) l.found
