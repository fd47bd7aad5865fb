use Rattle.ep_rules.proofs.JournalsGrow.{local_runs_grow_lem}
use Rattle.ep_rules.proofs.merging.local_runs_grow.Goals as goal

pub returns : goal.returns
returns c = local_runs_grow_lem
