use Rattle.ep_rules.proofs.Unique.{one_plan_lem}
use Rattle.ep_rules.proofs.history.one_plan.Goals as goal

pub returns : goal.returns
returns c = one_plan_lem
