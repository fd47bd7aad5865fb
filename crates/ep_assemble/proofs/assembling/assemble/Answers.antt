use Rattle.std.proofs.lemmas.Result.{err_from_is_err_and}
use Rattle.ep_assemble.specs.Logs.{contents}
use Rattle.ep_assemble.proofs.Unassembled.{unassembled}
use Rattle.ep_assemble.proofs.assembling.assemble.Goals as goal

pub returns-in_err-bundled-clause-err : goal.returns-in_err-bundled-clause-err
returns-in_err-bundled-clause-err c =
    let p = err_from_is_err_and c.from_residual-in_err-bundled.result c.from_residual-in_err-bundled.ensures.1 in
    rw (p.1, p.2) (unassembled c.in_err-bundled.field-0.0 (contents c.args.logs.now) (contents c.args.receipts.now) c.in_ok-logs.logs.journals.items c.in_ok-logs.logs.ends.items c.in_ok-journals.journals c.in_ok-logs.ensures.ok c.in_ok-journals.ensures.collects c.in_err-bundled.ensures.err)
