use Rattle.ep_rules.proofs.KeepingMachines.{map_is_machine_lem}
use Rattle.ep_rules.proofs.machines.map_is_machine.Goals as goal

pub returns : goal.returns
returns c = map_is_machine_lem
