use Rattle.ep_rules.proofs.KeepingMachines.{machines_resume_lem}
use Rattle.ep_rules.proofs.machines.machines_resume.Goals as goal

pub returns : goal.returns
returns g c = machines_resume_lem g.row.S.Denot g.row.R.Denot
