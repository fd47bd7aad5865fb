use Rattle.ep_opening.proofs.ClosedFiles.{closings_go_on_lem}
use Rattle.ep_opening.proofs.laws.closings_go_on.Goals as goal

pub returns : goal.returns
returns c = closings_go_on_lem
