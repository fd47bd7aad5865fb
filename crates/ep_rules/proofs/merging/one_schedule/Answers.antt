use Rattle.ep_rules.proofs.OneSchedule.{one_schedule_lem}
use Rattle.ep_rules.proofs.merging.one_schedule.Goals as goal

pub returns : goal.returns
returns c = one_schedule_lem
