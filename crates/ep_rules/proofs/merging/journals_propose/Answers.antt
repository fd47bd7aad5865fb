use Rattle.ep_rules.proofs.JournalsCommitted.{journals_propose_lem}
use Rattle.ep_rules.proofs.merging.journals_propose.Goals as goal

pub returns : goal.returns
returns c = journals_propose_lem
