use Rattle.ep_rules.proofs.ChainsExplained.{chains_keep_callers_lem}
use Rattle.ep_rules.proofs.generations.chains_keep_callers.Goals as goal

pub returns : goal.returns
returns c = chains_keep_callers_lem
