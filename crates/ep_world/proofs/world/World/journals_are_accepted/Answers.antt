use Rattle.std.proofs.Common.{subst}
use Rattle.ep_world.specs.Played.{IsWorld}
use Rattle.ep_world.proofs.Laws.{accepted}
use Rattle.ep_world.proofs.world.World.journals_are_accepted.Goals as goal

pub returns : goal.returns
returns c = accepted c.args.self.now (subst IsWorld c.self.view_is c.self.invariant.1)
