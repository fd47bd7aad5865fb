use Rattle.std.proofs.Common.{length}
use Rattle.ep_space.proofs.index.+room_for_items.Given as goal

abbrev pub decreases-room_for_items : goal.decreases-room_for_items
decreases-room_for_items l = length l.items.now
