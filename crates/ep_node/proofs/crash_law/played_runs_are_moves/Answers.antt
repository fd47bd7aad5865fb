use Rattle.ep_node.proofs.CrashPlayed.{played_runs_are_moves_lem}
use Rattle.ep_node.proofs.crash_law.played_runs_are_moves.Goals as goal

pub returns : goal.returns
returns c = played_runs_are_moves_lem
