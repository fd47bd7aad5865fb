use Rattle.ep_space.proofs.Settling.{settled-records}
use Rattle.ep_space.proofs.space.Space.settle.Goals as goal

pub returns : goal.returns
returns c = rw c.settle.ensures (settled-records c.self.inside.size c.self.inside.version c.self.inside.table c.args.id c.args.self.now c.self.view_is)
