use Rattle.std.proofs.Common.{rules, ◌≡◌, None, IfNone, subst}
use Rattle.ep_journal.specs.Entries.{journals_of}
use Rattle.ep_rules.specs.Audits.{IsAccepted}
use Rattle.ep_audit.proofs.summarizing.audit_summary.Goals as goal
use Rattle.ep_journal.specs.Openings.{opens}
use Rattle.ep_rules.specs.OneMap.{Store}

pub returns-in_ok-of-in-None-clause-ok : goal.returns-in_ok-of-in-None-clause-ok
returns-in_ok-of-in-None-clause-ok c =
    let base : Store = opens c.args.journals.now.opening in
    let f = c.args.journals.now.faults in
    let is : c.in_ok-found.found ≡ None = search rules in
    let accepted : IsAccepted base f (journals_of c.args.journals.now) c.args.receipts.now = subst (λ x. IfNone x (IsAccepted base f (journals_of c.args.journals.now) c.args.receipts.now)) is c.in_ok-found.ensures.accepted in
    c.in_ok-of-in-None.ensures.accepted c.args.receipts.now accepted
