use Rattle.ep_rules.proofs.JournalsCommitted.{journals_depend_lem}
use Rattle.ep_rules.proofs.merging.journals_depend.Goals as goal

pub returns : goal.returns
returns c = journals_depend_lem
