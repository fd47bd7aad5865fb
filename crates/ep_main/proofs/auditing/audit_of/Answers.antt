use Rattle.ep_main.proofs.Ending.{finishes}
use Rattle.ep_main.proofs.Flags.{bundle_read, bundle_unwritten}
use Rattle.ep_main.proofs.Making.{audit_made, audit_verdict, memory_read, memory_unwritten}
use Rattle.ep_main.proofs.auditing.audit_of.Goals as goal

pub returns-in_err-bundle-clause-finishes : goal.returns-in_err-bundle-clause-finishes
returns-in_err-bundle-clause-finishes g c zs known =
    let found = c.in_err-bundle.ensures.bytes zs known in
    finishes c.args.form _ _ zs found.0 _ c.from_residual.ensures.1 found.1

pub returns-in_err-bundle-clause-read : goal.returns-in_err-bundle-clause-read
returns-in_err-bundle-clause-read g c = bundle_read c.in_err-bundle.field-0.0 _ _ _ c.from_residual.ensures.1 c.in_err-bundle.ensures.reported

pub returns-in_err-bundle-clause-unwritten : goal.returns-in_err-bundle-clause-unwritten
returns-in_err-bundle-clause-unwritten g c = bundle_unwritten c.in_err-bundle.field-0.0 _ c.from_residual.ensures.1

pub returns-clause-finishes : goal.returns-clause-finishes
returns-clause-finishes g c zs known =
    let found = c.in_ok-bundle.ensures.bytes zs known in
    audit_made c.args.form c.in_ok-bundle.bundle.journals c.in_ok-bundle.bundle.receipts.items (record { at = found.0; bytes = found.1.0 }) zs c.judge_bundle-judged.result found.1.2 c.judge_bundle-judged.ensures.value
    c.judge_bundle-judged.ensures.memory

pub returns-clause-verdict : goal.returns-clause-verdict
returns-clause-verdict g c = audit_verdict c.args.form c.in_ok-bundle.bundle.journals c.in_ok-bundle.bundle.receipts.items c.judge_bundle-judged.result c.judge_bundle-judged.ensures.value

pub returns-clause-read : goal.returns-clause-read
returns-clause-read g c = memory_read c.judge_bundle-judged.result _ _ c.judge_bundle-judged.ensures.memory c.in_ok-bundle.ensures.reported

pub returns-clause-unwritten : goal.returns-clause-unwritten
returns-clause-unwritten g c = memory_unwritten c.judge_bundle-judged.result c.judge_bundle-judged.ensures.memory
