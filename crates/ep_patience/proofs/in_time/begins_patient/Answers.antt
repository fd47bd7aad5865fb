use Rattle.ep_patience.proofs.InTime.{begins_lem}
use Rattle.ep_patience.proofs.in_time.begins_patient.Goals as goal

pub returns : goal.returns
returns c = begins_lem
