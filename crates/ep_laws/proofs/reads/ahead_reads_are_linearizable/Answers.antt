use Rattle.ep_laws.proofs.Reading.{ahead_reads_are_linearizable_lem}
use Rattle.ep_laws.proofs.reads.ahead_reads_are_linearizable.Goals as goal

pub returns : goal.returns
returns c = ahead_reads_are_linearizable_lem
