use Rattle.ep_rules.proofs.JournalsGrow.{numbers_are_places_lem}
use Rattle.ep_rules.proofs.merging.numbers_are_places.Goals as goal

pub returns : goal.returns
returns c = numbers_are_places_lem
