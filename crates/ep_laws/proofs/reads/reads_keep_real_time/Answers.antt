use Rattle.ep_laws.proofs.InTurn.{reads_keep_real_time_lem}
use Rattle.ep_laws.proofs.reads.reads_keep_real_time.Goals as goal

pub returns : goal.returns
returns c = reads_keep_real_time_lem
