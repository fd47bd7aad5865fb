use Rattle.std.proofs.lemmas.Result.{err_from_is_err_and}
use Rattle.ep_main.proofs.Linked.{none_of_file, of_file, some_link}
use Rattle.ep_main.proofs.chain_files.read_link.Goals as goal

pub returns-in_err-bytes-clause-err : goal.returns-in_err-bytes-clause-err
returns-in_err-bytes-clause-err g c =
    let p = err_from_is_err_and c.from_residual.result c.from_residual.ensures.1 in
    rw (p.1, p.2) (of_file c.args.name.now c.in_err-bytes.field-0.0 c.in_err-bytes.ensures)

pub returns-clause-ok : goal.returns-clause-ok
returns-clause-ok g c = some_link _ _ c.link_of.ensures.ok

pub returns-clause-err : goal.returns-clause-err
returns-clause-err g c = none_of_file c.args.name.now _ _ c.link_of.ensures.err
