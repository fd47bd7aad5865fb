use Rattle.ep_node.proofs.CrashOrders.{crashing_runs_are_linearizable_lem}
use Rattle.ep_node.proofs.crash_law.crashing_runs_are_linearizable.Goals as goal

pub returns : goal.returns
returns c = crashing_runs_are_linearizable_lem
