use Rattle.ep_rules.proofs.LivesLinear.{lives_are_linearizable_lem}
use Rattle.ep_rules.proofs.generations.lives_are_linearizable.Goals as goal

pub returns : goal.returns
returns c = lives_are_linearizable_lem
