use Rattle.ep_base.proofs.Many.{tx_made}
use Rattle.ep_base.proofs.command.Command.tx.Goals as goal

pub returns-clause-ok : goal.returns-clause-ok
returns-clause-ok c = tx_made c.as_slice.result.now c.as_slice-2.result.now c.args.body.now c.of_parts.result c.of_parts.ensures.ok
