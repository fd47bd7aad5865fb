use Rattle.ep_rules.proofs.RunMachines.{handed_stays_lem}
use Rattle.ep_rules.proofs.machines.handed_stays.Goals as goal

pub returns : goal.returns
returns c = handed_stays_lem
