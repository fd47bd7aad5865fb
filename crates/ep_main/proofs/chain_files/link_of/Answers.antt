use Rattle.std.proofs.Common.{Some}
use Rattle.ep_main.proofs.Linked.{unread}
use Rattle.ep_main.proofs.chain_files.link_of.Goals as goal

pub returns-in-Ok-clause-ok : goal.returns-in-Ok-clause-ok
returns-in-Ok-clause-ok c =
    let found = c.in-Ok.ensures.bytes c.args.bytes.now (λ t. Some (c.new-source.ensures t).inner.now) in (record { at = found.0; bytes = found.1.0 }, found.1.2)

pub returns-in-Err-clause-err : goal.returns-in-Err-clause-err
returns-in-Err-clause-err c =
    let found = c.in-Err.ensures.bytes c.args.bytes.now (λ t. Some (c.new-source.ensures t).inner.now) in
    c.no_link.ensures c.args.bytes.now (unread c.args.bytes.now c.in-Err.fault found.0 _ found.1)
