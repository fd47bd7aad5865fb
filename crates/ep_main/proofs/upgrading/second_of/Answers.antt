use Rattle.std.proofs.Common.{refl}
use Rattle.ep_bundle.specs.Bytes.{bundle_bytes}
use Rattle.ep_bundle.specs.Reading.{Left}
use Rattle.ep_cli.proofs.Printed.{not_made}
use Rattle.ep_main.proofs.Ending.{second_not_read, not_upgraded}
use Rattle.ep_main.proofs.Flags.{bundle_read, bundle_unwritten}
use Rattle.ep_main.proofs.Ranges.{read_early, read_wider}
use Rattle.ep_main.proofs.Rewriting.{all_begun, rewritten}
use Rattle.ep_main.specs.Runs.{Does}
use Rattle.ep_main.specs.declared.asked.Asked.TheVariants.{Upgrade}
use Rattle.ep_main.specs.declared.target.Target.TheVariants.{Second}
use Rattle.ep_main.proofs.upgrading.second_of.Goals as goal

pub returns-in_err-bundle-clause-rewrites : goal.returns-in_err-bundle-clause-rewrites
returns-in_err-bundle-clause-rewrites g c zs known =
    let found = c.in_err-bundle.ensures.bytes zs known in
    second_not_read _ _ zs found.0 _ c.from_residual.ensures.1 found.1

pub returns-in_err-bundle-clause-read : goal.returns-in_err-bundle-clause-read
returns-in_err-bundle-clause-read g c = bundle_read c.in_err-bundle.field-0.0 _ _ _ c.from_residual.ensures.1 c.in_err-bundle.ensures.reported

pub returns-in_err-bundle-clause-unwritten : goal.returns-in_err-bundle-clause-unwritten
returns-in_err-bundle-clause-unwritten g c = bundle_unwritten c.in_err-bundle.field-0.0 _ c.from_residual.ensures.1

pub returns-in_err-upgraded-clause-rewrites : goal.returns-in_err-upgraded-clause-rewrites
returns-in_err-upgraded-clause-rewrites g c zs known =
    not_made (Does (Upgrade Second)) _ c.in_err-upgraded.field-0.0 zs c.from_residual-in_err-upgraded.ensures.1 (λ out silent. not_upgraded Second c.in_err-upgraded.field-0.0 zs out c.in_err-upgraded.ensures.memory silent)

pub returns-in-Err-clause-rewrites : goal.returns-in-Err-clause-rewrites
returns-in-Err-clause-rewrites g c zs known out silent = not_upgraded Second c.in-Err.fault zs out c.in-Err.ensures.memory silent

pub returns-in-Ok-clause-rewrites : goal.returns-in-Ok-clause-rewrites
returns-in-Ok-clause-rewrites g c zs known out wrote =
    let found = c.in_ok-bundle.ensures.bytes zs known in
    let journals = c.in_ok-bundle.bundle.journals in
    let receipts = c.in_ok-bundle.bundle.receipts.items in
    let end : Left = record { at = found.0; bytes = found.1.0 } in (
      refl,
      rewritten journals c.in_ok-upgraded.upgraded.journals receipts c.in_ok-upgraded.upgraded.receipts.items zs c.in-Ok.text.items end out found.1.2
          (c.in_ok-upgraded.ensures.journals (read_early zs ((journals, receipts), end) found.1.2)) c.in_ok-upgraded.ensures.same c.in_ok-upgraded.ensures.receipts
          c.in-Ok.ensures.value (λ are.
          (let l : Left = record { at = 0; bytes = zs } in
          let law = c.bundles_are_canonical.ensures l end journals receipts are (read_wider zs ((journals, receipts), end) found.1.2) in
          all_begun l (bundle_bytes journals receipts) end (law.2, law.3))) wrote,
    )
