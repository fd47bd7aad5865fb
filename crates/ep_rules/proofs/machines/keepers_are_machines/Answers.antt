use Rattle.ep_rules.proofs.KeepingMachines.{keepers_are_machines_lem}
use Rattle.ep_rules.proofs.machines.keepers_are_machines.Goals as goal

pub returns : goal.returns
returns g c = keepers_are_machines_lem g.row.X.Denot g.row.R.Denot
