use Rattle.ep_rules.proofs.Earlier.{earlier_first_lem}
use Rattle.ep_rules.proofs.history.earlier_first.Goals as goal

pub returns : goal.returns
returns c = earlier_first_lem
