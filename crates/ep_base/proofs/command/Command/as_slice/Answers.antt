use Rattle.std.proofs.Common.{◌∙◌}
use Rattle.ep_base.proofs.Runs.{view_whole}
use Rattle.ep_base.proofs.command.Command.as_slice.Goals as goal

pub returns : goal.returns
returns c = let i = c.self.inside in c.as_slice.ensures ∙ view_whole i.op i.run i.first i.second c.args.self.now c.self.invariant.1 c.self.view_is
