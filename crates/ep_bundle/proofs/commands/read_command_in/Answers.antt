use Rattle.ep_bundle.proofs.Readings.{fails}
use Rattle.ep_bundle.proofs.commands.read_command_in.Goals as goal

pub returns-in_err-lengths-clause-bytes : goal.returns-in_err-lengths-clause-bytes
returns-in_err-lengths-clause-bytes g c = λ y0 e0. fails _ _ _ _ _ _ _ _ (c.in_err-lengths.ensures.bytes y0 e0) c.from_residual.ensures.1
