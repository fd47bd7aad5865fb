use Rattle.ep_rules.proofs.ByPlace.{origin_by_place_lem}
use Rattle.ep_rules.proofs.merging.origin_by_place.Goals as goal

pub returns : goal.returns
returns c = origin_by_place_lem
