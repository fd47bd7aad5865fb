use Rattle.ep_laws.proofs.WholeReading.{ahead_whole_reads_are_linearizable_lem}
use Rattle.ep_laws.proofs.reads.ahead_whole_reads_are_linearizable.Goals as goal

pub returns : goal.returns
returns c = ahead_whole_reads_are_linearizable_lem
