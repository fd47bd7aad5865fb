use Rattle.ep_space.proofs.Settling.{cleared}
use Rattle.ep_space.proofs.table.Table.clear.Goals as goal

pub returns-else-has_place : goal.returns-else-has_place
returns-else-has_place g c = cleared c.args.self.now c.args.id (c.has_place.ensures.none c.if-has_place.false)
