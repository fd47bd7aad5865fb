use Rattle.ep_rules.proofs.ChainsExplained.{journals_close_lem}
use Rattle.ep_rules.proofs.generations.journals_close.Goals as goal

pub returns : goal.returns
returns c = journals_close_lem
