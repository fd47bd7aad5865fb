use Rattle.ep_rules.proofs.LivesGrow.{lives_grow_lem}
use Rattle.ep_rules.proofs.generations.lives_grow.Goals as goal

pub returns : goal.returns
returns c = lives_grow_lem
