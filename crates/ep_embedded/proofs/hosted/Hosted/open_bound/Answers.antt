use Rattle.ep_embedded.proofs.Heirs.{bound_if, unbound, unbound_if}
use Rattle.ep_embedded.proofs.hosted.Hosted.open_bound.Goals as goal

pub returns-in-Ok-clause-ok : goal.returns-in-Ok-clause-ok
returns-in-Ok-clause-ok c = bound_if c.args.heir.now c.args.opening.items _ c.in-Ok.file c.begun_with.result c.in-Ok.ensures.ok c.begun_with.ensures.ok

pub returns-in-Ok-clause-err : goal.returns-in-Ok-clause-err
returns-in-Ok-clause-err c = unbound_if c.args.heir.now c.args.opening.items _ c.in-Ok.file c.begun_with.result c.in-Ok.ensures.ok c.begun_with.ensures.err

pub returns-in-Err-clause-err : goal.returns-in-Err-clause-err
returns-in-Err-clause-err c = unbound c.args.heir.now c.args.opening.items _ c.in-Err.fault c.in-Err.ensures.err
