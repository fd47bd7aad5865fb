use Rattle.std.proofs.Common.{subst}
use Rattle.ep_world.specs.Played.{IsWorld}
use Rattle.ep_world.proofs.Laws.{is_played}
use Rattle.ep_world.proofs.world.World.steps.Goals as goal

pub returns-clause-run : goal.returns-clause-run
returns-clause-run c = is_played c.args.self.now (subst IsWorld c.self.view_is c.self.invariant.1)
