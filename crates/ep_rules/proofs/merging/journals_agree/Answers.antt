use Rattle.ep_rules.proofs.JournalsCommitted.{journals_agree_lem}
use Rattle.ep_rules.proofs.merging.journals_agree.Goals as goal

pub returns : goal.returns
returns c = journals_agree_lem
