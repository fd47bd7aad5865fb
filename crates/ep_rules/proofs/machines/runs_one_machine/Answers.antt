use Rattle.ep_rules.proofs.RunMachines.{runs_one_machine_lem}
use Rattle.ep_rules.proofs.machines.runs_one_machine.Goals as goal

pub returns : goal.returns
returns g c = runs_one_machine_lem g.row.S.Denot g.row.R.Denot
