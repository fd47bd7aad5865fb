use Rattle.ep_crash_laws.proofs.CrashReading.{crash_reads_are_linearizable_lem}
use Rattle.ep_crash_laws.proofs.reads.crash_reads_are_linearizable.Goals as goal

pub returns : goal.returns
returns c = crash_reads_are_linearizable_lem
