use Rattle.ep_embedded.proofs.Beginning.{begun, unopened_as}
use Rattle.ep_embedded.proofs.hosted.Hosted.open.Goals as goal

pub returns-in-Ok-clause-ok : goal.returns-in-Ok-clause-ok
returns-in-Ok-clause-ok c = begun c.args.seat _ _ c.in_ok-origin.origin c.in-Ok.hosted c.in_ok-origin.ensures.ok c.in-Ok.ensures.ok

pub returns-in-Err-clause-err : goal.returns-in-Err-clause-err
returns-in-Err-clause-err c = unopened_as c.args.seat _ _ c.in_ok-origin.origin c.in-Err.fault c.from.result c.from.ensures c.in_ok-origin.ensures.ok c.in-Err.ensures.err
