use Rattle.ep_node.proofs.CrashLasts.{crashes_keep_agreement_lem}
use Rattle.ep_node.proofs.crash_law.crashes_keep_agreement.Goals as goal

pub returns : goal.returns
returns c = crashes_keep_agreement_lem
