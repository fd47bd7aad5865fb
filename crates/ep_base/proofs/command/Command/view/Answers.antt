use Rattle.std.proofs.Common.{◌∙◌, ap, sym, subst}
use Rattle.ep_base.specs.Commands.{Cas}
use Rattle.ep_base.specs.CommandParts.{expected_in, new_in, is_comparison, are_items, items_in, IsInRange}
use Rattle.ep_base.proofs.Many.{tx_ranged}
use Rattle.ep_base.proofs.Runs.{cas_body, cas_said, view_lens, view_fits, view_range}
use Rattle.ep_base.proofs.command.Command.view.Goals as goal

pub expected_and_new-requires : goal.expected_and_new-requires
expected_and_new-requires c =
    let i = c.self.inside in
    let s = c.args.self.now in
    let lens = view_lens i.op i.run i.first i.second s c.self.invariant.0 c.self.invariant.1 c.self.view_is in
    ap is_comparison c.body-in-Cas.ensures ∙ cas_body s (view_fits i.op i.run i.first i.second s c.self.invariant.1 c.self.view_is) (lens.op ∙ c.in-Cas.is)

pub returns-in-Cas-clause-said : goal.returns-in-Cas-clause-said
returns-in-Cas-clause-said c =
    let i = c.self.inside in
    let s = c.args.self.now in
    let lens = view_lens i.op i.run i.first i.second s c.self.invariant.0 c.self.invariant.1 c.self.view_is in
    let expected = c.expected_and_new.ensures.expected ∙ ap expected_in c.body-in-Cas.ensures in
    let new = c.expected_and_new.ensures.new ∙ ap new_in c.body-in-Cas.ensures in
    (λ i. Cas (c.first-in-Cas.ensures.value i) (expected i) (new i)) ∙ cas_said s (view_range i.op i.run i.first i.second s c.self.invariant.1 c.self.view_is) (lens.op ∙ c.in-Cas.is)

pub returns-in-Cas-clause-in_range : goal.returns-in-Cas-clause-in_range
returns-in-Cas-clause-in_range c =
    let i = c.self.inside in
    subst IsInRange (sym (returns-in-Cas-clause-said c)) (view_range i.op i.run i.first i.second c.args.self.now c.self.invariant.1 c.self.view_is)

pub returns-in-Tx-clause-in_range : goal.returns-in-Tx-clause-in_range
returns-in-Tx-clause-in_range c =
    let i = c.self.inside in
    let s = c.args.self.now in
    let lens = view_lens i.op i.run i.first i.second s c.self.invariant.0 c.self.invariant.1 c.self.view_is in
    ap (λ b. are_items (items_in b)) c.body-in-Tx.ensures ∙ tx_ranged s (view_fits i.op i.run i.first i.second s c.self.invariant.1 c.self.view_is) (lens.op ∙ c.in-Tx.is)
