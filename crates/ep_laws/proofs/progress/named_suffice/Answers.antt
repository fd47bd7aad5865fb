use Rattle.ep_laws.proofs.Enough.{named_suffice_lem}
use Rattle.ep_laws.proofs.progress.named_suffice.Goals as goal

pub returns : goal.returns
returns c = named_suffice_lem
