use Rattle.std.proofs.Common.{ap}
use Rattle.std.specs.Map.{keys_of}
use Rattle.ep_space.proofs.Spots.{spots-none}
use Rattle.ep_space.proofs.table.Table.new.Goals as goal

pub invariant_of-result : goal.invariant_of-result
invariant_of-result g c = spots-none c.new-2.result.items (keys_of c.new.result.items) c.new-2.ensures.items (ap keys_of c.new.ensures.items)
