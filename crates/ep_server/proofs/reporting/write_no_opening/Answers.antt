use Rattle.std.proofs.Common.{refl}
use Rattle.ep_cli.proofs.Puts.{puts_in_two}
use Rattle.ep_server.proofs.reporting.write_no_opening.Goals as goal

pub returns : goal.returns
returns g c = puts_in_two _ _ _ _ _ _ _ _ _ _ c.in_ok-put.ensures.0 c.in_ok-put.ensures.1 refl c.write_opening_fault.ensures
