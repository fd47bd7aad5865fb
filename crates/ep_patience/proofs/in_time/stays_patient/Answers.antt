use Rattle.ep_patience.proofs.InTime.{stays_lem}
use Rattle.ep_patience.proofs.in_time.stays_patient.Goals as goal

pub returns : goal.returns
returns c = stays_lem
