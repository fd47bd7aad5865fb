use Rattle.ep_rules.proofs.Merged.{merged_is_a_run_lem}
use Rattle.ep_rules.proofs.merging.merged_is_a_run.Goals as goal

pub returns : goal.returns
returns c = merged_is_a_run_lem
