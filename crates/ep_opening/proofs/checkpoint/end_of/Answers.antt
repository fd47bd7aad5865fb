use Rattle.std.proofs.Common.{◌+◌, refl}
use Rattle.ep_opening.proofs.Short.{next_has_room}
use Rattle.ep_opening.proofs.checkpoint.end_of.Goals as goal

pub loop-rest-preserved : goal.loop-rest-preserved
loop-rest-preserved c = next_has_room c.args.pairs.now c.args.start c.loop-rest.end (c.loop-rest.end + 1) c.loop-rest.left c.in-Some.rest c.args.room c.loop-rest.invariant refl c.in-Some.ensures.within c.in-Some.ensures.left
