use Rattle.std.proofs.Common.{Ok, Err, sym, ◌∙◌}
use Rattle.ep_base.specs.CommandParts.{body_said}
use Rattle.ep_bundle.proofs.ReadCommands.{parts_read, parts_unread, run_fails, second_as}
use Rattle.ep_bundle.proofs.Readings.{fails, goes_on}
use Rattle.ep_bundle.proofs.commands.read_parts.Goals as goal

pub returns-in_err-read_over-clause-bytes : goal.returns-in_err-read_over-clause-bytes
returns-in_err-read_over-clause-bytes g c = λ y0 e0. fails _ _ _ _ _ _ _ _ (c.in_err-read_over.ensures.bytes y0 e0) c.from_residual.ensures.1

pub returns-in_err-read_second-clause-bytes : goal.returns-in_err-read_second-clause-bytes
returns-in_err-read_second-clause-bytes g c = λ y0 e0.
    goes_on _ _ _ _ _ _ _ _ (c.in_ok-read_over.ensures.bytes y0 e0) (λ y1 e1. fails _ _ _ _ _ _ _ _ (second_as c.read_over.new.bytes.items c.as_slice-first_key.result.now c.args.lengths.second _ (Err c.in_err-read_second.field-0.0) _ _ c.as_slice-first_key.ensures.value (c.in_err-read_second.ensures.bytes y1 e1)) c.from_residual-in_err-read_second.ensures.1)

pub returns-in_err-read_over-2-clause-bytes : goal.returns-in_err-read_over-2-clause-bytes
returns-in_err-read_over-2-clause-bytes g c = λ y0 e0.
    goes_on _ _ _ _ _ _ _ _ (c.in_ok-read_over.ensures.bytes y0 e0) (λ y1 e1. goes_on _ _ _ _ _ _ _ _ (second_as c.read_over.new.bytes.items c.as_slice-first_key.result.now c.args.lengths.second _ (Ok c.read_second.new.second.items) _ _ c.as_slice-first_key.ensures.value (c.in_ok-read_second.ensures.bytes y1 e1))
    (λ y2 e2. fails _ _ _ _ _ _ _ _ (run_fails _ _ c.args.lengths.body (body_said c.args.lengths.op) _ c.in_err-read_over-2.field-0.0 _ _ (c.in_err-read_over-2.ensures.bytes y2 e2)) c.from_residual-in_err-read_over-2.ensures.1))

pub returns-in-Some-clause-bytes : goal.returns-in-Some-clause-bytes
returns-in-Some-clause-bytes g c = λ y0 e0.
    parts_read c.args.lengths c.read_over.new.bytes.items c.read_second.new.second.items c.read_over-2.new.bytes.items c.as_slice-first_key.result.now c.as_slice-second_key.result.now c.as_slice-bytes.result.now c.in-Some.command (record { at = c.args.place.now; bytes = y0 })
    c.read_over.new.place c.read_second.new.place c.read_over-2.new.place (g.S.Source.left c.read_over.new.source) (g.S.Source.left c.read_second.new.source) (g.S.Source.left c.read_over-2.new.source)
    c.as_slice-first_key.ensures.value c.as_slice-second_key.ensures.value c.as_slice-bytes.ensures.value
    (c.in_ok-read_over.ensures.bytes y0 e0) (λ y e. c.in_ok-read_second.ensures.bytes y e) (λ y e. c.in_ok-read_over-2.ensures.bytes y e) (sym c.in-Some.is ∙ c.in_ok-made.ensures)

pub returns-in-None-clause-bytes : goal.returns-in-None-clause-bytes
returns-in-None-clause-bytes g c = λ y0 e0.
    parts_unread c.args.lengths c.read_over.new.bytes.items c.read_second.new.second.items c.read_over-2.new.bytes.items c.as_slice-first_key.result.now c.as_slice-second_key.result.now c.as_slice-bytes.result.now (record { at = c.args.place.now; bytes = y0 })
    c.read_over.new.place c.read_second.new.place c.read_over-2.new.place (g.S.Source.left c.read_over.new.source) (g.S.Source.left c.read_second.new.source) (g.S.Source.left c.read_over-2.new.source)
    c.requires c.as_slice-first_key.ensures.value c.as_slice-second_key.ensures.value c.as_slice-bytes.ensures.value c.in_ok-read_over.ensures.long c.in_ok-read_second.ensures.other.0 c.in_ok-read_over-2.ensures.long c.in_ok-read_second.ensures.other.1
    (c.in_ok-read_over.ensures.bytes y0 e0) (λ y e. c.in_ok-read_second.ensures.bytes y e) (λ y e. c.in_ok-read_over-2.ensures.bytes y e) (sym c.in-None.is ∙ c.in_ok-made.ensures)
