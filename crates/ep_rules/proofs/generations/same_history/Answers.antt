use Rattle.ep_rules.proofs.ChainsExplained.{same_history_lem}
use Rattle.ep_rules.proofs.generations.same_history.Goals as goal

pub returns : goal.returns
returns c = same_history_lem
