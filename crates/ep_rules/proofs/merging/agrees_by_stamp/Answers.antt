use Rattle.ep_rules.proofs.ByPlace.{agrees_by_stamp_lem}
use Rattle.ep_rules.proofs.merging.agrees_by_stamp.Goals as goal

pub returns : goal.returns
returns c = agrees_by_stamp_lem
