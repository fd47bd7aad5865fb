use Rattle.ep_rules.proofs.Closings.{seal_closes_lem}
use Rattle.ep_rules.proofs.closing.seal_closes.Goals as goal

pub returns : goal.returns
returns c = seal_closes_lem
