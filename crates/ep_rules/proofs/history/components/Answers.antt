use Rattle.ep_rules.proofs.Interleaved.{components_lem}
use Rattle.ep_rules.proofs.history.components.Goals as goal

pub returns : goal.returns
returns c = components_lem
