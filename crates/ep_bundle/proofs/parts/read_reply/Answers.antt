use Rattle.std.proofs.lemmas.Bool.{le-ltb, ne_eqb}
use Rattle.ep_bundle.proofs.Readings.{fails}
use Rattle.ep_bundle.proofs.parts.read_reply.Goals as goal

pub returns-in_err-value-clause-bytes : goal.returns-in_err-value-clause-bytes
returns-in_err-value-clause-bytes g c = λ y0 e0. rw c.if-code-eq1.true (fails _ _ _ _ _ _ _ _ (c.in_err-value.ensures.bytes y0 e0) c.from_residual.ensures.1)

pub returns-in_err-reported-clause-bytes : goal.returns-in_err-reported-clause-bytes
returns-in_err-reported-clause-bytes g c = λ y0 e0.
    rw (ne_eqb c.args.code 1 c.if-code-eq1.false, le-ltb c.args.code 5 c.if-code-lt5.false) (fails _ _ _ _ _ _ _ _ (c.in_err-reported.ensures.bytes y0 e0) c.from_residual-in_err-reported.ensures.1)
