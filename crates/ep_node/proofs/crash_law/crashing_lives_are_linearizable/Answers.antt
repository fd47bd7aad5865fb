use Rattle.ep_node.proofs.CrashLives.{crashing_lives_are_linearizable_lem}
use Rattle.ep_node.proofs.crash_law.crashing_lives_are_linearizable.Goals as goal

pub returns : goal.returns
returns c = crashing_lives_are_linearizable_lem
