use Rattle.ep_node.proofs.LifeMoves.{life_calls_are_moves_lem}
use Rattle.ep_node.proofs.crash_law.life_calls_are_moves.Goals as goal

pub returns : goal.returns
returns c = life_calls_are_moves_lem
