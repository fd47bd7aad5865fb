use Rattle.ep_rules.proofs.ChainMachines.{chains_one_machine_lem}
use Rattle.ep_rules.proofs.machines.chains_one_machine.Goals as goal

pub returns : goal.returns
returns g c = chains_one_machine_lem g.row.S.Denot g.row.R.Denot
