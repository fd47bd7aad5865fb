use Rattle.ep_laws.proofs.Taking.{histories_take_ahead_reads_lem}
use Rattle.ep_laws.proofs.reads.histories_take_ahead_reads.Goals as goal

pub returns : goal.returns
returns c = histories_take_ahead_reads_lem
