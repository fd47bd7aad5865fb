use Rattle.ep_rules.proofs.ByPlace.{sent_by_place_lem}
use Rattle.ep_rules.proofs.merging.sent_by_place.Goals as goal

pub returns : goal.returns
returns c = sent_by_place_lem
