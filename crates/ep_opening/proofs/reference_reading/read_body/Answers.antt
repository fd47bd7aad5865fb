use Rattle.std.proofs.Common.{refl, sym, ◌∙◌}
use Rattle.ep_opening.proofs.ReadReferences.{lead_fails, sealed, unsealed}
use Rattle.ep_opening.proofs.reference_reading.read_body.Goals as goal

pub returns-in_err-report_lead : goal.returns-in_err-report_lead
returns-in_err-report_lead c = lead_fails c.args.body.now c.args.digest.now _ _ _ _ (c.in_err-report_lead.ensures c.args.body.now (rw c.new-source.ensures refl)) c.from_residual.ensures.1

pub returns-then-not-is_sealed : goal.returns-then-not-is_sealed
returns-then-not-is_sealed c = unsealed c.args.body.now c.args.digest.now _ _ _ (c.in_ok-report_lead.ensures c.args.body.now (rw c.new-source.ensures refl)) (sym c.is_sealed.ensures ∙ c.if-not-is_sealed.true)

pub returns : goal.returns
returns c =
    sealed c.args.body.now c.args.digest.now _ _ _ _ _ _ (c.in_ok-report_lead.ensures c.args.body.now (rw c.new-source.ensures refl)) (sym c.is_sealed.ensures ∙ c.if-not-is_sealed.false)
    (λ ys k. c.read_parts.ensures ys k)
