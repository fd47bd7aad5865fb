use Rattle.ep_node.proofs.CrashLasts.{crashes_keep_receipts_lem}
use Rattle.ep_node.proofs.crash_law.crashes_keep_receipts.Goals as goal

pub returns : goal.returns
returns c = crashes_keep_receipts_lem
