use Rattle.std.proofs.Common.{◌∙◌, ◌-◌, Some, ap, arith, slice_set}
use Rattle.ep_space.proofs.Spots.{spot-inside, spot-value, spot-set}
use Rattle.ep_space.proofs.table.replace.Goals as goal

pub index_mut-requires : goal.index_mut-requires
index_mut-requires g c =
    let inside = spot-inside c.args.entries.now.items c.args.id c.args.at c.requires.spot c.requires.there in
    let len = c.args.entries.now.ok.0 in
    omega (arith, inside, len)

pub returns-clause-old : goal.returns-clause-old
returns-clause-old g c =
    ap Some c.replace.ensures.value
    ∙ spot-value c.args.entries.now.items c.args.id c.args.at c.index_mut.result.now c.requires.spot c.requires.there c.index_mut.ensures.value

pub returns-clause-new : goal.returns-clause-new
returns-clause-new g c =
    ap (λ w. slice_set c.args.entries.now.items (c.args.at - 1) (c.index_mut.result.now.0, w)) c.replace.ensures.after
    ∙ spot-set c.args.entries.now.items c.args.id c.args.at c.index_mut.result.now c.args.value c.requires.spot c.requires.there c.index_mut.ensures.value
