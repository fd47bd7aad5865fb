use Rattle.ep_laws.proofs.Answering.{can_serve_lem}
use Rattle.ep_laws.proofs.progress.can_serve.Goals as goal

pub returns : goal.returns
returns c = can_serve_lem
