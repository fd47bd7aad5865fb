use Rattle.std.proofs.Common.{◌<◌, ◌≤◌, List, ◌++◌, ap, subst, ◌∙◌, arith}
use Rattle.ep_base.specs.Quorums.{size}
use Rattle.ep_journal.specs.Entries.{Collected}
use Rattle.ep_rules.specs.declared.receipt.Receipt.{Receipt}
use Rattle.ep_audit.specs.Listed.{faults_below, receipt_faults}
use Rattle.ep_audit.proofs.Firsts.{is_first_of}
use Rattle.ep_audit.proofs.listing.faults.Goals as goal

pub returns-clause-first : goal.returns-clause-first
returns-clause-first c =
    let j : Collected = c.args.journals.now in
    let ts : List Receipt = c.args.receipts.now in
    let three : 3 ≤ size j.faults = subst (λ n. 3 ≤ n) (c.count-count.ensures.value ∙ ap size c.size.ensures) c.count-count.ensures.in_range.0 in
    let some : 0 < j.faults = omega arith in
    is_first_of j ts c.push_claims.new.found.items c.are_journals.ensures some
    (c.in_ok-push_claims.ensures ∙ ap (λ z. z ++ receipt_faults j 1 ts) (c.in_ok-found.ensures ∙ ap (faults_below j) (c.count-count.ensures.value ∙ ap size c.size.ensures)))
