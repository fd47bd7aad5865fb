use Rattle.std.proofs.Common.{◌≡◌, ◌∙◌, List, sym, subst}
use Rattle.std.specs.FinMap.{entries}
use Rattle.ep_exec.specs.Layers.{layers_of, stacked}
use Rattle.ep_exec.specs.Settling.{IsMerging}
use Rattle.ep_exec.proofs.Sorting.{Pair}
use Rattle.ep_exec.proofs.ground.merge_some.Goals as goal

pub settled-requires : goal.settled-requires
settled-requires c =
    let all = entries (stacked c.args.listing.now (layers_of c.args.older.now.items)) in
    c.in-Ok.ensures all (subst (λ (es : List Pair). IsMerging all es c.merged_on-slices.result) (sym c.entries-2.ensures)
    (subst (λ (es : List Pair). IsMerging all es c.merged_on-slices.result) c.entries.ensures
    (c.merged_on-slices.ensures all (subst (λ (es : List Pair). IsMerging all es c.args.slices) (sym c.entries.ensures) c.requires))))
