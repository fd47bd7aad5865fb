use Rattle.std.proofs.Common.{Err, Ok, refl}
use Rattle.ep_base.specs.declared.reply.Answer.TheVariants.{Replied}
use Rattle.ep_base.specs.declared.reply.Reply.TheVariants.{Present}
use Rattle.ep_bundle.specs.Reading.{run}
use Rattle.ep_bundle.specs.declared.bundle_field.BundleField.TheVariants as named
use Rattle.ep_bundle.proofs.Readings.{fails, gives, goes_on}
use Rattle.ep_bundle.proofs.SameAnswers.{value_fails, value_compared}
use Rattle.ep_bundle.proofs.values.read_same_value.Goals as goal

pub returns-in_err-len-clause-bytes : goal.returns-in_err-len-clause-bytes
returns-in_err-len-clause-bytes g c = λ y0 e0. value_fails c.args.answer.now (λ x. Replied (Present x)) c.args.version _ c.in_err-len.field-0.0 _ _ _ (fails _ (run named.AnswerValue) _ (Err c.in_err-len.field-0.0) _ _ _ _ (c.in_err-len.ensures.bytes y0 e0) refl) c.from_residual.ensures.1

pub returns-in_err-read_over-clause-bytes : goal.returns-in_err-read_over-clause-bytes
returns-in_err-read_over-clause-bytes g c = λ y0 e0.
    value_fails c.args.answer.now (λ x. Replied (Present x)) c.args.version _ c.in_err-read_over.field-0.0 _ _ _ (goes_on _ (run named.AnswerValue) c.in_ok-len.len _ _ (Err c.in_err-read_over.field-0.0) _ _ (c.in_ok-len.ensures.bytes y0 e0) (λ y1 e1. c.in_err-read_over.ensures.bytes y1 e1)) c.from_residual-in_err-read_over.ensures.1

pub returns-clause-bytes : goal.returns-clause-bytes
returns-clause-bytes g c = λ y0 e0.
    value_compared c.args.answer.now (λ x. Replied (Present x)) c.args.version _ c.deref.result.now c.reports-same.result c.read_over.new.place (g.S.Source.left c.read_over.new.source)
    (goes_on _ (run named.AnswerValue) c.in_ok-len.len _ _ (Ok c.deref.result.now) c.read_over.new.place (g.S.Source.left c.read_over.new.source) (c.in_ok-len.ensures.bytes y0 e0) (λ y1 e1. gives _ _ _ _ _ (c.in_ok-read_over.ensures.bytes y1 e1) c.deref.ensures.value))
    c.reports-same.ensures.yes c.reports-same.ensures.other
