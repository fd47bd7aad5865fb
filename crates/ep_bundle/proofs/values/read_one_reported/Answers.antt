use Rattle.std.proofs.lemmas.Bool.{ne_eqb}
use Rattle.ep_bundle.specs.Stages.{reported_by}
use Rattle.ep_bundle.proofs.Readings.{fails, goes_on}
use Rattle.ep_bundle.proofs.values.read_one_reported.Goals as goal

pub returns-in_err-code-clause-bytes : goal.returns-in_err-code-clause-bytes
returns-in_err-code-clause-bytes g c = λ y0 e0. fails _ _ _ _ _ _ _ _ (c.in_err-code.ensures.bytes y0 e0) c.from_residual.ensures.1

pub returns-in_err-value-clause-bytes : goal.returns-in_err-value-clause-bytes
returns-in_err-value-clause-bytes g c = λ y0 e0.
    goes_on _ (reported_by c.args.version) c.in_ok-code.code _ _ _ _ _ (c.in_ok-code.ensures.bytes y0 e0)
    (λ y1 e1. rw (ne_eqb c.in_ok-code.code 0 c.if-code-eq0.false) (fails _ _ _ _ _ _ _ _ (c.in_err-value.ensures.bytes y1 e1) c.from_residual-in_err-value.ensures.1))
