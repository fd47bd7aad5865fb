use Rattle.std.proofs.Common.{◌≡◌, ◌∙◌, ap, subst, IfErr}
use Rattle.std.specs.FinMap.{entries}
use Rattle.ep_rules.specs.OneMap.{Contents}
use Rattle.ep_exec.specs.Layers.{layers_of, stacked}
use Rattle.ep_exec.specs.Sorting.{IsBad}
use Rattle.ep_exec.specs.Table.{over}
use Rattle.ep_exec.proofs.Sorting.{sorted_entries, made_again}
use Rattle.ep_exec.proofs.contents.remade.Goals as goal

pub of_sorted-requires : goal.of_sorted-requires
of_sorted-requires c = sorted_entries (over c.into_parts-listing.result.0 c.in_ok-changes-2.changes.entries) c.in_ok-items.items.items c.in_ok-items.ensures.ok

pub returns-clause-ok : goal.returns-clause-ok
returns-clause-ok c =
    c.of.ensures
    ∙ c.in_ok-listing.ensures
    ∙ made_again (over c.into_parts-listing.result.0 c.in_ok-changes-2.changes.entries) c.in_ok-items.items.items c.in_ok-items.ensures.ok
    ∙ c.in_ok-changes-2.ensures c.into_parts-listing.result.0
    ∙ ap (λ (m : Contents). over m c.in_ok-changes.changes.entries) c.into_parts-listing.ensures
    ∙ c.in_ok-changes.ensures c.args.ground
