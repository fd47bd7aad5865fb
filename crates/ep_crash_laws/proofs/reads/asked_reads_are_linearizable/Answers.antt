use Rattle.ep_crash_laws.proofs.Asking.{asked_reads_are_linearizable_lem}
use Rattle.ep_crash_laws.proofs.reads.asked_reads_are_linearizable.Goals as goal

pub returns : goal.returns
returns c = asked_reads_are_linearizable_lem
