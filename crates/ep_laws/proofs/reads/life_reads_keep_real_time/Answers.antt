use Rattle.ep_laws.proofs.LifeOrdering.{life_reads_keep_real_time_lem}
use Rattle.ep_laws.proofs.reads.life_reads_keep_real_time.Goals as goal

pub returns : goal.returns
returns c = life_reads_keep_real_time_lem
