use Rattle.ep_exec.specs.Layers.{layers_of, stacked}
use Rattle.ep_exec.specs.Table.{over}
use Rattle.ep_exec.proofs.Layered.{layer_joined}
use Rattle.ep_exec.proofs.layers.gathered.Goals as goal

pub loop-layer-preserved : goal.loop-layer-preserved
loop-layer-preserved c = λ m.
    layer_joined c.loop-layer.layers.items c.take_small.new.layers.items c.in-Some.layer c.loop-layer.changes.entries c.in_ok-changes.changes.entries m
    (over (stacked m (layers_of c.args.layers.now.items)) c.args.changes.entries) c.in-Some.ensures c.in_ok-changes.ensures (c.loop-layer.invariant m)
