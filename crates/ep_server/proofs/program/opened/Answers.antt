use Rattle.ep_server.proofs.Serving.{is_failure}
use Rattle.ep_server.proofs.program.opened.Goals as goal

pub returns-in-Err-clause-err : goal.returns-in-Err-clause-err
returns-in-Err-clause-err g c = (c.in-Err.ensures.err, is_failure (record { has_failed = g.D.Device.has_failed; why = g.D.Device.why; seen = g.D.Device.seen; moment = g.D.Device.moment; left_since = g.D.Device.left_since }) _ _ c.in-Err.ensures.failed)
