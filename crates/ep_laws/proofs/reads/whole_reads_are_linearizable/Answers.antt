use Rattle.ep_laws.proofs.WholeReading.{whole_reads_are_linearizable_lem}
use Rattle.ep_laws.proofs.reads.whole_reads_are_linearizable.Goals as goal

pub returns : goal.returns
returns c = whole_reads_are_linearizable_lem
