use Rattle.std.proofs.Common.{◌∙◌, ◌-◌, ap, arith, slice_set}
use Rattle.std.specs.Map.{set_value}
use Rattle.ep_space.specs.Entries.{flat, same}
use Rattle.ep_space.specs.Settled.{as_settled}
use Rattle.ep_space.proofs.Spots.{spot-inside, spot-value, spot-set}
use Rattle.ep_space.proofs.table.settle_at.Goals as goal

pub index_mut-requires : goal.index_mut-requires
index_mut-requires c =
    let inside = spot-inside c.args.entries.now.items c.args.id c.args.at c.requires.spot c.requires.there in
    let len = c.args.entries.now.ok.0 in
    omega (arith, inside, len)

pub returns : goal.returns
returns c =
    let es = c.args.entries.now.items in
    let i = c.args.id in
    let at = c.args.at in
    let e = c.index_mut.result.now in
    ap (λ w. slice_set es (at - 1) (e.0, w)) c.settle.ensures
    ∙ spot-set es i at e (as_settled e.1) c.requires.spot c.requires.there c.index_mut.ensures.value
    ∙ ap (λ o. set_value (same i) es (as_settled (flat o))) (spot-value es i at e c.requires.spot c.requires.there c.index_mut.ensures.value)
