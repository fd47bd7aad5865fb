use Rattle.ep_rules.proofs.ByPlace.{done_by_place_lem}
use Rattle.ep_rules.proofs.merging.done_by_place.Goals as goal

pub returns : goal.returns
returns c = done_by_place_lem
