use Rattle.ep_rules.proofs.Interleaved.{one_history_lem}
use Rattle.ep_rules.proofs.history.one_history.Goals as goal

pub returns : goal.returns
returns c = one_history_lem
