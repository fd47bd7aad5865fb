use Rattle.ep_rules.proofs.Closings.{closed_stays_lem}
use Rattle.ep_rules.proofs.closing.closed_stays.Goals as goal

pub returns : goal.returns
returns c = closed_stays_lem
