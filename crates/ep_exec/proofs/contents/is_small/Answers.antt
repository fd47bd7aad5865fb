use Rattle.std.proofs.lemmas.Bool.{ltb-false}
use Rattle.ep_exec.specs.Layers.{layers_of}
use Rattle.ep_exec.proofs.Layered.{not_many}
use Rattle.ep_exec.proofs.contents.is_small.Goals as goal

pub returns-else-all-le8192 : goal.returns-else-all-le8192
returns-else-all-le8192 c few =
    not_many c.args.ground.now (layers_of c.args.layers.now) c.args.changes.now.entries c.at_most.result c.count.result c.len.result c.saturating_add-many.result c.saturating_add-all.result
    c.at_most.ensures c.count.ensures c.len.ensures.len c.saturating_add-many.ensures c.saturating_add-all.ensures (ltb-false _ _ few)
