use Rattle.std.proofs.Common.{refl}
use Rattle.ep_main.proofs.Ending.{third_not_read, third_refused}
use Rattle.ep_main.proofs.Flags.{bundle_read, bundle_unwritten}
use Rattle.ep_main.proofs.Rewriting.{in_third, third_reported, third_unwritten}
use Rattle.ep_main.proofs.upgrading.third_from.Goals as goal

pub returns-in_err-bundle-clause-rewrites : goal.returns-in_err-bundle-clause-rewrites
returns-in_err-bundle-clause-rewrites g c zs known =
    let found = c.in_err-bundle.ensures.bytes zs known in
    third_not_read _ _ zs found.0 _ c.from_residual.ensures.1 found.1

pub returns-in_err-bundle-clause-read : goal.returns-in_err-bundle-clause-read
returns-in_err-bundle-clause-read g c = bundle_read c.in_err-bundle.field-0.0 _ _ _ c.from_residual.ensures.1 c.in_err-bundle.ensures.reported

pub returns-in_err-bundle-clause-unwritten : goal.returns-in_err-bundle-clause-unwritten
returns-in_err-bundle-clause-unwritten g c = bundle_unwritten c.in_err-bundle.field-0.0 _ c.from_residual.ensures.1

pub returns-in-Err-clause-rewrites : goal.returns-in-Err-clause-rewrites
returns-in-Err-clause-rewrites g c zs known out silent =
    let found = c.in_ok-bundle.ensures.bytes zs known in
    third_refused c.in-Err.fault zs c.in_ok-bundle.bundle.journals c.in_ok-bundle.bundle.receipts.items (record { at = found.0; bytes = found.1.0 }) out found.1.2 c.in-Err.ensures.refused c.in-Err.ensures.memory silent

pub returns-in-Err-clause-read : goal.returns-in-Err-clause-read
returns-in-Err-clause-read g c = third_reported c.in_ok-bundle.bundle.journals c.in_ok-bundle.bundle.receipts.items c.in-Err.fault _ _ c.in-Err.ensures.refused c.in-Err.ensures.memory c.in_ok-bundle.ensures.reported

pub returns-in-Err-clause-unwritten : goal.returns-in-Err-clause-unwritten
returns-in-Err-clause-unwritten g c = third_unwritten c.in_ok-bundle.bundle.journals c.in_ok-bundle.bundle.receipts.items c.in-Err.fault c.in-Err.ensures.refused c.in-Err.ensures.memory

pub returns-in-Ok-clause-rewrites : goal.returns-in-Ok-clause-rewrites
returns-in-Ok-clause-rewrites g c zs known out wrote =
    let found = c.in_ok-bundle.ensures.bytes zs known in (
      refl,
      in_third c.in_ok-bundle.bundle.journals c.in_ok-bundle.bundle.receipts.items zs c.in-Ok.text.items (record { at = found.0; bytes = found.1.0 }) out found.1.2
          c.in-Ok.ensures.early c.in-Ok.ensures.late (λ are. (c.in_ok-bundle.ensures.canonical zs known are).1) wrote,
    )
