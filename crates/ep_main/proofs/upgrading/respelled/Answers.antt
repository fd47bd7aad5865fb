use Rattle.std.proofs.Common.{List, sym, subst}
use Rattle.ep_rules.specs.declared.receipt.Receipt.{Receipt}
use Rattle.ep_main.proofs.Rewriting.{third_fault_of}
use Rattle.ep_main.specs.Faults.{of_bundle}
use Rattle.ep_main.specs.Upgrades.{IsThirdFault}
use Rattle.ep_main.proofs.upgrading.respelled.Goals as goal

pub returns-in-Err-clause-refused : goal.returns-in-Err-clause-refused
returns-in-Err-clause-refused c =
    let journals = c.args.bundle.now.journals in
    let receipts = c.args.bundle.now.receipts.items in
    subst (IsThirdFault journals receipts) (sym c.from.ensures)
    (subst (λ (rs : List Receipt). IsThirdFault journals rs (of_bundle c.in-Err.fault)) c.as_slice.ensures.value
    (third_fault_of journals c.as_slice.result.now c.in-Err.fault c.in-Err.ensures.err))
