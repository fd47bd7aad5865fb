use Rattle.ep_laws.proofs.Reading.{machine_reads_are_linearizable_lem}
use Rattle.ep_laws.proofs.reads.machine_reads_are_linearizable.Goals as goal

pub returns : goal.returns
returns g c = machine_reads_are_linearizable_lem g.row.S.Denot g.row.R.Denot
