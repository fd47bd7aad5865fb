use Rattle.ep_base.proofs.Many.{many_body}
use Rattle.ep_base.proofs.Runs.{view_range}
use Rattle.ep_base.proofs.command.Command.is_many.Goals as goal

pub returns-in-Tx-clause-body : goal.returns-in-Tx-clause-body
returns-in-Tx-clause-body c =
    let i = c.self.inside in
    let s = c.args.self.now in
    λ many. many_body s (view_range i.op i.run i.first i.second s c.self.invariant.1 c.self.view_is) many
