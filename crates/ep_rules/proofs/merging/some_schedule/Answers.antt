use Rattle.ep_rules.proofs.Sorted.{some_schedule_lem}
use Rattle.ep_rules.proofs.merging.some_schedule.Goals as goal

pub returns : goal.returns
returns c = some_schedule_lem
