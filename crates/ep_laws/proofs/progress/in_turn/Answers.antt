use Rattle.ep_laws.proofs.Turning.{in_turn_lem}
use Rattle.ep_laws.proofs.progress.in_turn.Goals as goal

pub returns : goal.returns
returns c = in_turn_lem
