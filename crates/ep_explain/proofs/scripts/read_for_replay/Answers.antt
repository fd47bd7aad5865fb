use Rattle.std.proofs.Common.{[], refl}
use Rattle.ep_explain.proofs.scripts.read_for_replay.Goals as goal

pub returns : goal.returns
returns c = (refl, [], refl, c.in_ok-text.ensures.items)
