use Rattle.ep_base.proofs.Footprints.{footprint_law_lem}
use Rattle.ep_base.proofs.interference.footprint_law.Goals as goal

pub returns : goal.returns
returns c = footprint_law_lem
