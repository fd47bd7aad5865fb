use Rattle.ep_rules.proofs.Lives.{one_opening_lem}
use Rattle.ep_rules.proofs.generations.one_opening.Goals as goal

pub returns : goal.returns
returns c = one_opening_lem
