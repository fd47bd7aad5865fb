use Rattle.ep_laws.proofs.WholeReading.{machine_whole_reads_are_linearizable_lem}
use Rattle.ep_laws.proofs.reads.machine_whole_reads_are_linearizable.Goals as goal

pub returns : goal.returns
returns g c = machine_whole_reads_are_linearizable_lem g.row.S.Denot g.row.R.Denot
