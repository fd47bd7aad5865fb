use Rattle.ep_base.proofs.Runs.{view_range}
use Rattle.ep_base.proofs.command.Command.first.Goals as goal

pub returns-clause-in_range : goal.returns-clause-in_range
returns-clause-in_range c = let i = c.self.inside in view_range i.op i.run i.first i.second c.args.self.now c.self.invariant.1 c.self.view_is
