use Rattle.ep_base.proofs.Partitions.{parts_law_lem}
use Rattle.ep_base.proofs.command.parts_law.Goals as goal

pub returns : goal.returns
returns c = parts_law_lem
