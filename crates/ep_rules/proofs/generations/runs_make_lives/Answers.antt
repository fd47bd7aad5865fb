use Rattle.ep_rules.proofs.Lives.{runs_make_lives_lem}
use Rattle.ep_rules.proofs.generations.runs_make_lives.Goals as goal

pub returns : goal.returns
returns c = runs_make_lives_lem
