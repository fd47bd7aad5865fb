use Rattle.ep_host.proofs.Ordered.{begins}
use Rattle.ep_host.proofs.port.Port.open.Goals as goal

pub ruled-requires-clause-rule : goal.ruled-requires-clause-rule
ruled-requires-clause-rule g c = begins
