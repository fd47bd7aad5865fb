use Rattle.std.proofs.Common.{[], List, sym, subst, arith}
use Rattle.std.specs.FinMap.{entries}
use Rattle.ep_exec.specs.Layers.{layers_of, stacked}
use Rattle.ep_exec.specs.Settling.{IsMerging}
use Rattle.ep_exec.proofs.Settled.{gathered_all, merged_all}
use Rattle.ep_exec.proofs.Sorting.{Pair}
use Rattle.ep_exec.proofs.ground.gather_some.Goals as goal

pub returns-then-gathering-older-clause-gathers : goal.returns-then-gathering-older-clause-gathers
returns-then-gathering-older-clause-gathers c = c.gathered_on-gathering.ensures [] c.or_begun-gathering.ensures

pub returns-in-Ok-clause-merges : goal.returns-in-Ok-clause-merges
returns-in-Ok-clause-merges c =
    let m = c.args.listing.now in
    let ls = c.args.older.now in
    let g = c.gathered_on-gathering.result in
    let whole = gathered_all m (stacked m (layers_of ls)) ls g.tree.entries g.left g.done (omega (arith, c.if-gathering-older.false)) (c.gathered_on-gathering.ensures [] c.or_begun-gathering.ensures m) in
    let is = merged_all m (stacked m (layers_of ls)) c.entries.result.now g.tree.entries c.entries.ensures c.in-Ok.ensures.rise whole in
    subst (λ (es : List Pair). IsMerging (entries (stacked m (layers_of ls))) es c.in-Ok.slices) c.entries.ensures
    (subst (λ (all : List Pair). IsMerging all c.entries.result.now c.in-Ok.slices) is c.in-Ok.ensures.is)
