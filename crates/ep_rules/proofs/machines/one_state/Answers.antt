use Rattle.ep_rules.proofs.AnyMachine.{one_state_lem}
use Rattle.ep_rules.proofs.machines.one_state.Goals as goal

pub returns : goal.returns
returns g c = one_state_lem g.row.S.Denot g.row.R.Denot
