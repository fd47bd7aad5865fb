use Rattle.std.proofs.Common.{List, subst, sym, refl, ◌∙◌}
use Rattle.ep_host.specs.RingFinishing.{replicas_in, their_journals}
use Rattle.ep_rules.specs.Verdicts.{AreOwn}
use Rattle.ep_rules.specs.declared.receipt.Receipt.{Receipt as Reported}
use Rattle.ep_run.proofs.Running.{of_own, version_is, opening_is}
use Rattle.ep_run.proofs.Ending.{are_done}
use Rattle.ep_run.proofs.ring_run.RingRun.end.Goals as goal
use Rattle.ep_journal.specs.Entries.{first_opening}
use Rattle.ep_journal.specs.Openings.{opens}

pub finish_with-requires : goal.finish_with-requires
finish_with-requires c =
    let f = c.requires.0.faults in
    let h = c.requires.2 in
    let nodes = c.args.self.nodes.items in
    (f, h.host, subst (λ (l : List Reported). AreOwn (opens (first_opening (replicas_in nodes))) f (their_journals (replicas_in nodes)) l) (sym c.deref-3.ensures.value) (of_own f nodes c.args.self.receipts.items h.host h.own))

pub returns-in-Ok-finish_with-clause-lines : goal.returns-in-Ok-finish_with-clause-lines
returns-in-Ok-finish_with-clause-lines c = λ b turns h.
    are_done b turns c.args.sections.now c.args.self _ h (c.in-Ok-finish_with.ensures.journals b.faults h.host).1 refl c.deref.result.now c.deref.ensures.value c.in-Ok.ensures

pub returns-in-Ok-finish_with-clause-begun : goal.returns-in-Ok-finish_with-clause-begun
returns-in-Ok-finish_with-clause-begun c = λ b turns h. record {
  faults = (c.in-Ok-finish_with.ensures.journals b.faults h.host).0;
  version = c.in-Ok-finish_with.ensures.version ∙ version_is b turns c.args.sections.now c.args.self h;
  opening = c.in-Ok-finish_with.ensures.opening ∙ opening_is b turns c.args.sections.now c.args.self h;
}

pub returns-in-Ok-finish_with-clause-journals : goal.returns-in-Ok-finish_with-clause-journals
returns-in-Ok-finish_with-clause-journals c = (c.in-Ok-finish_with.ensures.journals c.requires.0.faults c.requires.2.host).1
