use Rattle.ep_rules.proofs.JournalsCommitted.{agreed_is_lem}
use Rattle.ep_rules.proofs.merging.agreed_is.Goals as goal

pub returns : goal.returns
returns c = agreed_is_lem
