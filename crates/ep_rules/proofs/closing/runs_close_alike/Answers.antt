use Rattle.ep_rules.proofs.Closings.{runs_close_alike_lem}
use Rattle.ep_rules.proofs.closing.runs_close_alike.Goals as goal

pub returns : goal.returns
returns c = runs_close_alike_lem
