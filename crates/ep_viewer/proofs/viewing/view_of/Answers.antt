use Rattle.ep_viewer.proofs.Ending.{bundle_read, bundle_unwritten, no_text_not_written, no_text_read, not_read, not_viewed, viewed}
use Rattle.ep_viewer.proofs.viewing.view_of.Goals as goal

pub returns-in_err-bundle-clause-made : goal.returns-in_err-bundle-clause-made
returns-in_err-bundle-clause-made g c zs known =
    let found = c.in_err-bundle.ensures.bytes zs known in
    not_read c.args.view.now _ _ zs found.0 _ c.from_residual.ensures.1 found.1

pub returns-in_err-bundle-clause-read : goal.returns-in_err-bundle-clause-read
returns-in_err-bundle-clause-read g c = bundle_read c.in_err-bundle.field-0.0 _ _ _ c.from_residual.ensures.1 c.in_err-bundle.ensures.reported

pub returns-in_err-bundle-clause-unwritten : goal.returns-in_err-bundle-clause-unwritten
returns-in_err-bundle-clause-unwritten g c = bundle_unwritten c.in_err-bundle.field-0.0 _ c.from_residual.ensures.1

pub returns-in-Ok-clause-made : goal.returns-in-Ok-clause-made
returns-in-Ok-clause-made g c zs known out wrote =
    let found = c.in_ok-bundle.ensures.bytes zs known in
    viewed c.args.view.now c.in_ok-bundle.bundle.journals c.in_ok-bundle.bundle.receipts.items (record { at = found.0; bytes = found.1.0 }) zs c.in-Ok.text.items out found.1.2 c.in-Ok.ensures.reports wrote

pub returns-in-Err-clause-made : goal.returns-in-Err-clause-made
returns-in-Err-clause-made g c zs known out silent = not_viewed c.args.view.now zs c.in-Err.fault out c.in-Err.ensures.refused silent

pub returns-in-Err-clause-read : goal.returns-in-Err-clause-read
returns-in-Err-clause-read g c = no_text_read c.in-Err.fault _ _ c.in-Err.ensures.refused c.in_ok-bundle.ensures.reported

pub returns-in-Err-clause-unwritten : goal.returns-in-Err-clause-unwritten
returns-in-Err-clause-unwritten g c = no_text_not_written c.in-Err.fault c.in-Err.ensures.refused
