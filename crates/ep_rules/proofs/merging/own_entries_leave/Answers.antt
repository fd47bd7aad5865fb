use Rattle.ep_rules.proofs.JournalsGrow.{own_entries_leave_lem}
use Rattle.ep_rules.proofs.merging.own_entries_leave.Goals as goal

pub returns : goal.returns
returns c = own_entries_leave_lem
