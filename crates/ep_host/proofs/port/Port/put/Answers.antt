use Rattle.ep_host.proofs.Ordered.{puts}
use Rattle.ep_host.proofs.port.Port.put.Goals as goal

pub push_as-requires-clause-rule : goal.push_as-requires-clause-rule
push_as-requires-clause-rule g c = (puts _ _ _ _, λ items views h at. tt)
