use Rattle.ep_rules.proofs.JournalsGrow.{asked_grows_lem}
use Rattle.ep_rules.proofs.merging.asked_grows.Goals as goal

pub returns : goal.returns
returns c = asked_grows_lem
