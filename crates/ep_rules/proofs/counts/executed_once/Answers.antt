use Rattle.ep_rules.proofs.OnceDone.{executed_once_lem}
use Rattle.ep_rules.proofs.counts.executed_once.Goals as goal

pub returns : goal.returns
returns c = executed_once_lem
