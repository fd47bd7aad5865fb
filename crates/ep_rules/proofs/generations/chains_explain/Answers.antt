use Rattle.ep_rules.proofs.ChainsExplained.{chains_explain_lem}
use Rattle.ep_rules.proofs.generations.chains_explain.Goals as goal

pub returns : goal.returns
returns c = chains_explain_lem
