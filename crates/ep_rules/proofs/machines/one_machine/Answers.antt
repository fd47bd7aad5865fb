use Rattle.ep_rules.proofs.AnyMachine.{one_machine_lem}
use Rattle.ep_rules.proofs.machines.one_machine.Goals as goal

pub returns : goal.returns
returns g c = one_machine_lem g.row.S.Denot g.row.R.Denot
