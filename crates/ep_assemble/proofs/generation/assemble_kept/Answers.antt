use Rattle.std.proofs.Common.{refl}
use Rattle.std.proofs.lemmas.Result.{err_from_is_err_and}
use Rattle.ep_assemble.specs.Logs.{contents}
use Rattle.ep_assemble.proofs.Beside.{not_kept, uncollected, unheld}
use Rattle.ep_assemble.proofs.generation.assemble_kept.Goals as goal

pub returns-in_err-logs-clause-err : goal.returns-in_err-logs-clause-err
returns-in_err-logs-clause-err c =
    let p = err_from_is_err_and c.from_residual.result c.from_residual.ensures.1 in
    rw (p.1, p.2) (not_kept c.args.cluster.now c.args.kept.now (contents c.args.receipts.now) c.in_err-logs.field-0.0 c.in_err-logs.ensures.err)

pub returns-in_err-journals-clause-err : goal.returns-in_err-journals-clause-err
returns-in_err-journals-clause-err c =
    let p = err_from_is_err_and c.from_residual-in_err-journals.result c.from_residual-in_err-journals.ensures.1 in
    rw (p.1, p.2)
    (uncollected c.args.cluster.now c.args.kept.now (contents c.args.receipts.now) c.in_ok-logs.logs.journals.items c.in_ok-logs.logs.ends.items c.in_err-journals.field-0.0 _ c.in_ok-logs.ensures.ok
    c.in_err-journals.ensures.refused refl)

pub returns-in_err-bundled-clause-err : goal.returns-in_err-bundled-clause-err
returns-in_err-bundled-clause-err c =
    let p = err_from_is_err_and c.from_residual-in_err-bundled.result c.from_residual-in_err-bundled.ensures.1 in
    rw (p.1, p.2)
    (unheld c.args.cluster.now c.args.kept.now (contents c.args.receipts.now) c.in_ok-logs.logs.journals.items c.in_ok-logs.logs.ends.items c.in_ok-journals.journals c.in_err-bundled.field-0.0 _ c.in_ok-logs.ensures.ok
    c.in_ok-journals.ensures.collects c.in_err-bundled.ensures.err refl)
