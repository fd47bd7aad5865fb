use Rattle.std.proofs.Common.{◌&&◌, Err, Ok, refl, sym, ◌∙◌}
use Rattle.std.proofs.lemmas.Bool.{le-ltb, lt-ltb, ne_eqb}
use Rattle.ep_bundle.specs.Stages.{plain_answer, reply_by}
use Rattle.ep_bundle.proofs.Readings.{fails}
use Rattle.ep_bundle.proofs.Compared.{fault_as, compares_on, compared}
use Rattle.ep_bundle.proofs.SameAnswers.{reported_compared, reported_fails}
use Rattle.ep_bundle.proofs.parts.read_same_answer.Goals as goal

pub returns-in_err-code-clause-bytes : goal.returns-in_err-code-clause-bytes
returns-in_err-code-clause-bytes g c = λ y0 e0. fault_as c.args.reported.now _ c.in_err-code.field-0.0 _ _ _ (fails _ (reply_by c.args.version) _ (Err c.in_err-code.field-0.0) _ _ _ _ (c.in_err-code.ensures.bytes y0 e0) refl) c.from_residual.ensures.1

pub returns-then-code-eq1-clause-bytes : goal.returns-then-code-eq1-clause-bytes
returns-then-code-eq1-clause-bytes g c = λ y0 e0.
    compares_on c.args.reported.now _ (reply_by c.args.version) c.in_ok-code.code _ _ c.read_same_value.result c.read_same_value.new.place (g.S.Source.left c.read_same_value.new.source) (c.in_ok-code.ensures.bytes y0 e0)
    (λ y1 e1. rw c.if-code-eq1.true (c.read_same_value.ensures.bytes y1 e1))

pub returns-in_err-same-clause-bytes : goal.returns-in_err-same-clause-bytes
returns-in_err-same-clause-bytes g c = λ y0 e0.
    compares_on c.args.reported.now _ (reply_by c.args.version) c.in_ok-code.code _ _ _ _ _ (c.in_ok-code.ensures.bytes y0 e0)
    (λ y1 e1. rw (ne_eqb c.in_ok-code.code 1 c.if-code-eq1.false, le-ltb c.in_ok-code.code 5 c.if-code-lt5.false)
    (reported_fails c.args.reported.now c.args.version c.in_ok-code.code _ c.in_err-same.field-0.0 _ _ _ (c.in_err-same.ensures.bytes y1 e1) c.from_residual-in_err-same.ensures.1))

pub returns-clause-bytes : goal.returns-clause-bytes
returns-clause-bytes g c = λ y0 e0.
    compares_on c.args.reported.now _ (reply_by c.args.version) c.in_ok-code.code _ _ (Ok (c.in_ok-same.same && c.has_code-here.result)) c.read_same_reported.new.place (g.S.Source.left c.read_same_reported.new.source) (c.in_ok-code.ensures.bytes y0 e0)
    (λ y1 e1. rw (ne_eqb c.in_ok-code.code 1 c.if-code-eq1.false, le-ltb c.in_ok-code.code 5 c.if-code-lt5.false)
    (reported_compared c.args.reported.now c.args.version c.in_ok-code.code _ c.reported_in.result.now c.in_ok-same.same c.has_code-here.result _ _ c.reported_in.ensures (c.in_ok-same.ensures.bytes y1 e1) c.has_code-here.ensures.yes c.has_code-here.ensures.other))

pub returns-then-code-lt5-clause-bytes : goal.returns-then-code-lt5-clause-bytes
returns-then-code-lt5-clause-bytes g c = λ y0 e0.
    compares_on c.args.reported.now _ (reply_by c.args.version) c.in_ok-code.code _ _ (Ok c.is_same-same.result) c.read_code.new.place (g.S.Source.left c.read_code.new.source) (c.in_ok-code.ensures.bytes y0 e0)
    (λ y1 e1. rw (ne_eqb c.in_ok-code.code 1 c.if-code-eq1.false, lt-ltb c.in_ok-code.code 5 c.if-code-lt5.true)
    (compared c.args.reported.now (plain_answer c.in_ok-code.code) c.is_same-same.result _ c.read_code.new.place (g.S.Source.left c.read_code.new.source) (y1, e1, refl) (λ t. sym (c.is_same-same.ensures.same.0 t) ∙ c.plain_answer.ensures) (λ e. c.is_same-same.ensures.same.1 (c.plain_answer.ensures ∙ sym e))))
