use Rattle.ep_rules.proofs.Closings.{one_closing_lem}
use Rattle.ep_rules.proofs.closing.one_closing.Goals as goal

pub returns : goal.returns
returns c = one_closing_lem
