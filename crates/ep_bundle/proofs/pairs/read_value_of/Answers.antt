use Rattle.ep_bundle.proofs.Readings.{stops}
use Rattle.ep_bundle.proofs.pairs.read_value_of.Goals as goal

pub returns-in_err-bytes-clause-bytes : goal.returns-in_err-bytes-clause-bytes
returns-in_err-bytes-clause-bytes g c = λ y0 e0. stops _ _ _ _ _ _ _ (c.in_err-bytes.ensures.bytes y0 e0) c.from_residual.ensures.1
