use Rattle.std.proofs.Common.{Some}
use Rattle.ep_bundle.proofs.Reread.{is_bundle, is_unread}
use Rattle.ep_bundle.proofs.upgrading.check.Goals as goal

pub returns-in-Ok-clause-ok : goal.returns-in-Ok-clause-ok
returns-in-Ok-clause-ok c = let found = c.in-Ok.ensures.bytes c.args.bytes.now (λ t. Some (c.new-source.ensures t).inner.now) in is_bundle c.args.bytes.now c.in-Ok.bundle found.0 _ found.1

pub returns-in-Err-clause-err : goal.returns-in-Err-clause-err
returns-in-Err-clause-err c =
    let found = c.in-Err.ensures.bytes c.args.bytes.now (λ t. Some (c.new-source.ensures t).inner.now) in
    c.reported.ensures c.args.bytes.now (is_unread c.args.bytes.now c.in-Err.fault found.0 _ found.1)
