use Rattle.ep_rules.proofs.ChainMachines.{lives_one_machine_lem}
use Rattle.ep_rules.proofs.machines.lives_one_machine.Goals as goal

pub returns : goal.returns
returns g c = lives_one_machine_lem g.row.S.Denot g.row.R.Denot
