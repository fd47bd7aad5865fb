use Rattle.ep_patience.proofs.AtLast.{asks_at_last_lem}
use Rattle.ep_patience.proofs.at_last.asks_at_last.Goals as goal

pub returns : goal.returns
returns c = asks_at_last_lem
