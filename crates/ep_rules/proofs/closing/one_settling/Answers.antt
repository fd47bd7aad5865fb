use Rattle.ep_rules.proofs.Settling.{one_settling_lem}
use Rattle.ep_rules.proofs.closing.one_settling.Goals as goal

pub returns : goal.returns
returns c = one_settling_lem
