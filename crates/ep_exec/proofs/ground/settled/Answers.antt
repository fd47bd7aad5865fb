use Rattle.std.proofs.Common.{◌∙◌, inl, ap}
use Rattle.ep_rules.specs.OneMap.{Contents}
use Rattle.ep_exec.specs.Layers.{layers_of, stacked}
use Rattle.ep_exec.proofs.Sorting.{sorted_entries, made_again}
use Rattle.ep_exec.proofs.ground.settled.Goals as goal

pub of_sorted-requires : goal.of_sorted-requires
of_sorted-requires c = sorted_entries (stacked c.args.listing.now (layers_of c.args.older.now.items)) c.args.items.items c.requires

pub returns-in-Ok-clause-same : goal.returns-in-Ok-clause-same
returns-in-Ok-clause-same c =
    (λ i. stacked c.in-Ok.whole (layers_of (c.new.ensures.items i)))
    ∙ c.in-Ok.ensures ∙ made_again (stacked c.args.listing.now (layers_of c.args.older.now.items)) c.args.items.items c.requires
