use Rattle.std.proofs.Common.{length}
use Rattle.ep_space.proofs.index.+enter_items.Given as goal

abbrev pub decreases-enter_items : goal.decreases-enter_items
decreases-enter_items l = length l.items.now
