use Rattle.std.proofs.Common.{Err, refl}
use Rattle.ep_bundle.specs.Stages.{reported_by}
use Rattle.ep_bundle.proofs.Readings.{fails}
use Rattle.ep_bundle.proofs.Compared.{fault_as}
use Rattle.ep_bundle.proofs.values.read_same_one_reported.Goals as goal

pub returns-in_err-code-clause-bytes : goal.returns-in_err-code-clause-bytes
returns-in_err-code-clause-bytes g c = λ y0 e0. fault_as c.args.option.now _ c.in_err-code.field-0.0 _ _ _ (fails _ (reported_by c.args.version) _ (Err c.in_err-code.field-0.0) _ _ _ _ (c.in_err-code.ensures.bytes y0 e0) refl) c.from_residual.ensures.1
