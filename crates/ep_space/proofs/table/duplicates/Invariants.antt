use Rattle.std.proofs.Common.{◌≡◌, take}
use Rattle.ep_space.proofs.table.duplicates.Given as goal

abbrev pub invariant-loop-id : goal.invariant-loop-id
invariant-loop-id g l = l.same.items ≡ take l.id-index l.entries.items
