use Rattle.ep_rules.proofs.JournalsGrow.{played_sends_lem}
use Rattle.ep_rules.proofs.merging.played_sends.Goals as goal

pub returns : goal.returns
returns c = played_sends_lem
