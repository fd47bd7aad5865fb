use Rattle.std.proofs.Common.{ap, subst, sym}
use Rattle.ep_base.specs.Interference.{is_many}
use Rattle.ep_base.specs.CommandParts.{IsInRange}
use Rattle.ep_space.proofs.Once.{many_once}
use Rattle.ep_space.proofs.names.names_of.Goals as goal

pub returns-in-Tx-clause-apart : goal.returns-in-Tx-clause-apart
returns-in-Tx-clause-apart c =
    let said = c.in-Tx.ensures.said in
    many_once c.args.command.now (sym (ap is_many said)) (subst IsInRange said c.in-Tx.ensures.in_range)
