use Rattle.ep_rules.proofs.JournalsGrow.{clocks_grow_lem}
use Rattle.ep_rules.proofs.merging.clocks_grow.Goals as goal

pub returns : goal.returns
returns c = clocks_grow_lem
