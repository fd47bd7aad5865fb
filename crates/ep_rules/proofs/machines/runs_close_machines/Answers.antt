use Rattle.ep_rules.proofs.ClosingMachines.{runs_close_machines_lem}
use Rattle.ep_rules.proofs.machines.runs_close_machines.Goals as goal

pub returns : goal.returns
returns g c = runs_close_machines_lem g.row.S.Denot g.row.R.Denot
