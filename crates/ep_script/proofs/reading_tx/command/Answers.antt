use Rattle.std.proofs.Common.{Err, ap, ◌∙◌}
use Rattle.ep_script.proofs.Merging.{tx_made, tx_refused}
use Rattle.ep_script.proofs.reading_tx.command.Goals as goal

pub returns-in-Ok : goal.returns-in-Ok
returns-in-Ok c =
    tx_made c.args.items.now c.as_slice.result.now c.in-Ok.command (c.as_slice.ensures.value ∙ c.in_ok-body.ensures) c.in-Ok.ensures.ok
    (λ f. let refused = c.in-Ok.ensures.out_of_range.1 f in cc)

pub returns-in-Err-OutOfRange : goal.returns-in-Err-OutOfRange
returns-in-Err-OutOfRange c = tx_refused c.args.items.now c.as_slice.result.now (c.as_slice.ensures.value ∙ c.in_ok-body.ensures) (c.in-Err-OutOfRange.ensures.out_of_range.0 (ap (λ e. Err e) c.in-Err-OutOfRange.field-0-is))
