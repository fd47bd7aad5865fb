use Rattle.ep_rules.proofs.JournalsKeep.{journals_keep_lem}
use Rattle.ep_rules.proofs.merging.journals_keep.Goals as goal

pub returns : goal.returns
returns c = journals_keep_lem
