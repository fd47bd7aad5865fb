use Rattle.ep_laws.proofs.Sealed.{served_seal_closes_lem}
use Rattle.ep_laws.proofs.progress.served_seal_closes.Goals as goal

pub returns : goal.returns
returns c = served_seal_closes_lem
