use Rattle.ep_laws.proofs.LifeReading.{life_reads_are_linearizable_lem}
use Rattle.ep_laws.proofs.reads.life_reads_are_linearizable.Goals as goal

pub returns : goal.returns
returns c = life_reads_are_linearizable_lem
