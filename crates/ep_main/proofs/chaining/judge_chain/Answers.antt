use Rattle.std.proofs.Common.{rules, ◌≡◌, List, length, sym, subst}
use Rattle.ep_audit.specs.Chained.{IsChainRefused}
use Rattle.ep_audit.specs.declared.verdict.Verdict.{Verdict}
use Rattle.ep_main.proofs.Linked.{fault_less}
use Rattle.ep_main.proofs.chaining.judge_chain.Goals as goal

pub reported_chain-requires : goal.reported_chain-requires
reported_chain-requires c = subst (λ (vs : List Verdict). length vs ≡ length c.args.links.now) (sym c.deref.ensures.value) c.in-Ok.ensures.ok.count

pub refused_chain-requires-clause-there : goal.refused_chain-requires-clause-there
refused_chain-requires-clause-there c =
    fault_less c.args.links.now c.in-Err-Fault.place (subst (IsChainRefused c.args.links.now) c.in-Err-Fault.field-0-is c.in-Err-Fault.ensures.refused)

pub refused_chain-requires-clause-fault : goal.refused_chain-requires-clause-fault
refused_chain-requires-clause-fault c = subst (IsChainRefused c.args.links.now) c.in-Err-Fault.field-0-is c.in-Err-Fault.ensures.refused

pub returns-in_ok-text-in-Ok-clause-value : goal.returns-in_ok-text-in-Ok-clause-value
returns-in_ok-text-in-Ok-clause-value c = (c.in-Ok.verdicts.items, c.in-Ok.ensures.ok, search rules)
