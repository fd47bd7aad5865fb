use Rattle.ep_laws.proofs.Reading.{reads_are_linearizable_lem}
use Rattle.ep_laws.proofs.reads.reads_are_linearizable.Goals as goal

pub returns : goal.returns
returns c = reads_are_linearizable_lem
