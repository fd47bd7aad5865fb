use Rattle.ep_opening.proofs.ClosedFiles.{closings_agree_lem}
use Rattle.ep_opening.proofs.laws.closings_agree.Goals as goal

pub returns : goal.returns
returns c = closings_agree_lem
