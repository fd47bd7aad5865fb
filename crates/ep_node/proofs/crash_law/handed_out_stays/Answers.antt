use Rattle.ep_node.proofs.CrashLasts.{handed_out_stays_lem}
use Rattle.ep_node.proofs.crash_law.handed_out_stays.Goals as goal

pub returns : goal.returns
returns c = handed_out_stays_lem
