use Rattle.ep_base.proofs.Runs.{view_fits, view_again}
use Rattle.ep_base.proofs.command.Command.op.Goals as goal

pub returns-clause-fits : goal.returns-clause-fits
returns-clause-fits c = let i = c.self.inside in view_fits i.op i.run i.first i.second c.args.self.now c.self.invariant.1 c.self.view_is

pub returns-clause-again : goal.returns-clause-again
returns-clause-again c = let i = c.self.inside in view_again i.op i.run i.first i.second c.args.self.now c.self.invariant.1 c.self.view_is
