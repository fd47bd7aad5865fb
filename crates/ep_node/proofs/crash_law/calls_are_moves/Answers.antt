use Rattle.ep_node.proofs.CallMoves.{calls_are_moves_lem}
use Rattle.ep_node.proofs.crash_law.calls_are_moves.Goals as goal

pub returns : goal.returns
returns c = calls_are_moves_lem
