use Rattle.ep_cli.proofs.Puts.{puts_third}
use Rattle.ep_server.proofs.reporting.write_failure.Goals as goal

pub returns : goal.returns
returns g c = puts_third _ _ _ _ _ _ _ _ _ _ _ _ c.in_ok-put.ensures.0 c.in_ok-put.ensures.1 c.in_ok-write_cause.ensures.0 c.in_ok-write_cause.ensures.1 c.put-2.ensures
