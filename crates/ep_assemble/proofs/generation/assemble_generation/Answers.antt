use Rattle.ep_assemble.specs.Logs.{contents}
use Rattle.ep_assemble.proofs.Beside.{unassembled}
use Rattle.ep_assemble.proofs.generation.assemble_generation.Goals as goal

pub returns-in-Ok-clause-err : goal.returns-in-Ok-clause-err
returns-in-Ok-clause-err c =
    unassembled c.args.generation c.args.kept.now (contents c.args.receipts.now) c.in-Ok.cluster c.in-Err-assemble_kept.fault c.in-Ok.ensures.ok c.in-Err-assemble_kept.ensures.err
