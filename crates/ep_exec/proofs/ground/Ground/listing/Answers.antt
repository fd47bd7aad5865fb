use Rattle.std.proofs.Common.{◌≡◌, ◌∙◌, ap, subst, IfOk, List}
use Rattle.std.specs.FinMap.{entries}
use Rattle.ep_rules.specs.OneMap.{Contents}
use Rattle.ep_exec.specs.Layers.{layers_of, stacked}
use Rattle.ep_exec.specs.Table.{over}
use Rattle.ep_exec.proofs.Settled.{merged_all}
use Rattle.ep_exec.proofs.Sorting.{sorted_entries, made_again}
use Rattle.std.proofs.Common.{refl}
use Rattle.ep_exec.proofs.ground.Ground.listing.Goals as goal

pub of_sorted-requires : goal.of_sorted-requires
of_sorted-requires c =
    let m = c.self.inside.listing in
    let t = c.in_ok-tree-2.tree.entries in
    sorted_entries (over m t) c.in_ok-items.items.items (c.in_ok-items.ensures.is ∙ merged_all m (over m t) c.entries.result.now t c.entries.ensures c.in_ok-items.ensures.rise refl)

pub returns : goal.returns
returns c =
    let m = c.self.inside.listing in
    let t = c.in_ok-tree-2.tree.entries in
    let is = c.in_ok-items.ensures.is ∙ merged_all m (over m t) c.entries.result.now t c.entries.ensures c.in_ok-items.ensures.rise refl in
    subst (λ (x : Contents). IfOk c.of_sorted.result (λ l. l ≡ x))
    (made_again (over m t) c.in_ok-items.items.items is
    ∙ c.in_ok-tree-2.ensures m
    ∙ ap (λ (x : Contents). stacked x (layers_of c.args.layers.now))
    (c.in_ok-tree.ensures m ∙ (λ i. stacked (over m (c.new.ensures.empty i)) (layers_of (c.deref.ensures.value i))) ∙ c.self.view_is))
    c.of_sorted.ensures
