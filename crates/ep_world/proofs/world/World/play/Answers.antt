use Rattle.ep_world.proofs.Laws.{keeps}
use Rattle.ep_world.proofs.world.World.play.Goals as goal

pub returns-clause-permanence : goal.returns-clause-permanence
returns-clause-permanence c = keeps c.args.self.now c.args.events.now c.play_all-played.new.self c.play_all-played.result c.play_all-played.ensures.ok c.play_all-played.ensures.refused
