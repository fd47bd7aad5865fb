use Rattle.std.proofs.Common.{subst}
use Rattle.ep_audit.specs.Audited.{IsRefused}
use Rattle.ep_audit.specs.declared.verdict_fault.VerdictFault.{VerdictFault}
use Rattle.ep_journal.specs.Entries.{journals_of}
use Rattle.ep_audit.specs.Faults.{fault_of}
use Rattle.ep_rules.specs.Audits.{IsFault}
use Rattle.ep_rules.proofs.OneFault.{faults_are_first_lem}
use Rattle.ep_host.proofs.ring_finishing.accepted.Goals as goal
use Rattle.ep_journal.specs.Openings.{opens}
use Rattle.ep_rules.specs.OneMap.{Store}

pub unreachable-requires : goal.unreachable-requires
unreachable-requires c =
    let base : Store = opens c.args.journals.now.opening in let f = c.args.journals.now.faults in let J = journals_of c.args.journals.now in let receipts = c.args.receipts.now in
    let fault : IsFault base f J receipts (fault_of c.in-Err-Fault.field-0-0) = subst (λ (e : VerdictFault). IsRefused base f J receipts e) c.in-Err-Fault.field-0-is c.in-Err-Fault.ensures.refused in
    absurd ((faults_are_first_lem base f J receipts).none c.requires (fault_of c.in-Err-Fault.field-0-0) fault)
