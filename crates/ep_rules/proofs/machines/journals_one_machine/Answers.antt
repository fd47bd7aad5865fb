use Rattle.ep_rules.proofs.ClosingMachines.{journals_one_machine_lem}
use Rattle.ep_rules.proofs.machines.journals_one_machine.Goals as goal

pub returns : goal.returns
returns g c = journals_one_machine_lem g.row.S.Denot g.row.R.Denot
