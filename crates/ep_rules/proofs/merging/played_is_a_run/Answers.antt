use Rattle.ep_rules.proofs.Played.{played_is_a_run_lem}
use Rattle.ep_rules.proofs.merging.played_is_a_run.Goals as goal

pub returns : goal.returns
returns c = played_is_a_run_lem
