use Rattle.std.proofs.Common.{◌≡◌, drop}
use Rattle.ep_exec.specs.Agreeing.{agree_in}
use Rattle.ep_exec.specs.Layers.{layers_of}
use Rattle.ep_exec.proofs.agreeing.agree_in.Given as goal

abbrev pub invariant-loop-layer : goal.invariant-loop-layer
invariant-loop-layer l = agree_in l.one l.other (layers_of (drop l.layer-index l.layers)) ≡ agree_in l.one l.other (layers_of l.layers)
