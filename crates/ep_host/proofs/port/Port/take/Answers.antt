use Rattle.ep_host.proofs.Ordered.{takes}
use Rattle.ep_host.proofs.port.Port.take.Goals as goal

pub pop_as-requires-clause-rule : goal.pop_as-requires-clause-rule
pop_as-requires-clause-rule g c = (takes _ _, λ items views h at. tt)
