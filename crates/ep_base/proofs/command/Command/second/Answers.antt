use Rattle.ep_base.proofs.Runs.{view_second}
use Rattle.ep_base.proofs.command.Command.second.Goals as goal

pub returns : goal.returns
returns c = let i = c.self.inside in view_second i.op i.run i.first i.second c.args.self.now c.self.invariant.1 c.self.view_is c.as_slice.result.now c.as_slice.ensures
