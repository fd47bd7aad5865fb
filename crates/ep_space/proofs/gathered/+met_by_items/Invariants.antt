use Rattle.std.proofs.Common.{length}
use Rattle.ep_space.proofs.gathered.+met_by_items.Given as goal

abbrev pub decreases-met_by_items : goal.decreases-met_by_items
decreases-met_by_items l = length l.items.now
