use Rattle.std.proofs.Common.{length}
use Rattle.ep_space.proofs.index.+leave_items.Given as goal

abbrev pub decreases-leave_items : goal.decreases-leave_items
decreases-leave_items l = length l.items.now
