use Rattle.std.proofs.Common.{◌≡◌, ◌<◌, ◌≤◌, None, IfNone, IfSome, sym, ap, subst, ◌∙◌, arith}
use Rattle.std.proofs.lemmas.Result.{IfOk-weaker}
use Rattle.ep_base.specs.Quorums.{size}
use Rattle.ep_journal.specs.Entries.{Collected, journals_of}
use Rattle.ep_audit.specs.Faults.{fault_of}
use Rattle.ep_rules.specs.Audits.{IsAccepted, IsFault}
use Rattle.ep_audit.specs.Claims.{first_of}
use Rattle.ep_audit.specs.Handlings.{first_below}
use Rattle.ep_audit.proofs.Handled.{matched, handled_wrong}
use Rattle.ep_audit.proofs.Claimed.{accepted_if, wrong_if}
use Rattle.ep_audit.proofs.matching.first_fault.Goals as goal
use Rattle.ep_journal.specs.Openings.{opens}

pub returns-in-Some-clause-fault : goal.returns-in-Some-clause-fault
returns-in-Some-clause-fault c =
    handled_wrong c.args.journals.now.faults c.args.journals.now c.args.receipts.now c.count-count.result c.in-Some.fault c.are_journals.ensures (sym c.in-Some.ensures)

pub returns-in-None-clause-accepted : goal.returns-in-None-clause-accepted
returns-in-None-clause-accepted c =
    let j : Collected = c.args.journals.now in
    let three : 3 ≤ size j.faults = subst (λ n. 3 ≤ n) (c.count-count.ensures.value ∙ ap size c.size.ensures) c.count-count.ensures.in_range.0 in
    let some : 0 < j.faults = omega arith in
    let none : first_below j (size j.faults) ≡ None = subst (λ n. first_below j n ≡ None) (c.count-count.ensures.value ∙ ap size c.size.ensures) (sym c.in-None.ensures) in
    IfOk-weaker c.first_claim.result (λ found. found ≡ first_of j 1 c.args.receipts.now) (λ found. IfNone found (IsAccepted (opens j.opening) j.faults (journals_of j) c.args.receipts.now))
    (λ found is. accepted_if j c.args.receipts.now c.are_journals.ensures some (matched j c.are_journals.ensures none) found is) c.first_claim.ensures

pub returns-in-None-clause-fault : goal.returns-in-None-clause-fault
returns-in-None-clause-fault c =
    let j : Collected = c.args.journals.now in
    let three : 3 ≤ size j.faults = subst (λ n. 3 ≤ n) (c.count-count.ensures.value ∙ ap size c.size.ensures) c.count-count.ensures.in_range.0 in
    let some : 0 < j.faults = omega arith in
    let none : first_below j (size j.faults) ≡ None = subst (λ n. first_below j n ≡ None) (c.count-count.ensures.value ∙ ap size c.size.ensures) (sym c.in-None.ensures) in
    IfOk-weaker c.first_claim.result (λ found. found ≡ first_of j 1 c.args.receipts.now) (λ found. IfSome found (λ fault. IsFault (opens j.opening) j.faults (journals_of j) c.args.receipts.now (fault_of fault)))
    (λ found is. wrong_if j c.args.receipts.now c.are_journals.ensures some (matched j c.are_journals.ensures none) found is) c.first_claim.ensures
