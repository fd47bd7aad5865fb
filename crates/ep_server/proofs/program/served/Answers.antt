use Rattle.std.proofs.Common.{Ok, Err, refl}
use Rattle.ep_server.proofs.program.served.Goals as goal

pub returns-in-Ok-clause-over : goal.returns-in-Ok-clause-over
returns-in-Ok-clause-over g c = λ zs left. (c.serve.new.node, Ok tt, refl, c.in-Ok.ensures.served zs left, record { written = c.in-Ok.ensures.sink_cause; logged = c.in-Ok.ensures.log_cause; why = tt; read = c.in-Ok.ensures.source_cause })

pub returns-in-Err-clause-over : goal.returns-in-Err-clause-over
returns-in-Err-clause-over g c = λ zs left. (c.serve.new.node, Err _, refl, c.in-Err.ensures.served zs left, record { written = c.in-Err.ensures.sink_cause; logged = c.in-Err.ensures.log_cause; why = c.in-Err.ensures.log_why; read = c.in-Err.ensures.source_cause })
