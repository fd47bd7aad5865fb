use Rattle.ep_laws.proofs.Answering.{room_at_first_lem}
use Rattle.ep_laws.proofs.progress.room_at_first.Goals as goal

pub returns : goal.returns
returns c = room_at_first_lem
