use Rattle.ep_rules.proofs.AllExecuted.{runs_execute_all_lem}
use Rattle.ep_rules.proofs.closing.runs_execute_all.Goals as goal

pub returns : goal.returns
returns c = runs_execute_all_lem
