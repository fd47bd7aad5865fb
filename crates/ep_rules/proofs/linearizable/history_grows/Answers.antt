use Rattle.ep_rules.proofs.RunHistories.{history_grows_lem}
use Rattle.ep_rules.proofs.linearizable.history_grows.Goals as goal

pub returns : goal.returns
returns c = history_grows_lem
