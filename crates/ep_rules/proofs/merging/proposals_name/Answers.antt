use Rattle.ep_rules.proofs.Named.{proposals_name_lem}
use Rattle.ep_rules.proofs.merging.proposals_name.Goals as goal

pub returns : goal.returns
returns c = proposals_name_lem
