use Rattle.ep_node.proofs.CrashRuns.{crashing_runs_are_runs_lem}
use Rattle.ep_node.proofs.crash_law.crashing_runs_are_runs.Goals as goal

pub returns : goal.returns
returns c = crashing_runs_are_runs_lem
