use Rattle.ep_rules.proofs.FewOut.{sends_few_lem}
use Rattle.ep_rules.proofs.counts.sends_few.Goals as goal

pub returns : goal.returns
returns c = sends_few_lem
