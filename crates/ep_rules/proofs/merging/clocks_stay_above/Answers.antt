use Rattle.ep_rules.proofs.JournalsGrow.{clocks_stay_above_lem}
use Rattle.ep_rules.proofs.merging.clocks_stay_above.Goals as goal

pub returns : goal.returns
returns c = clocks_stay_above_lem
