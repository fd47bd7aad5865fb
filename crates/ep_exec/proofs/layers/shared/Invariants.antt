use Rattle.std.proofs.Common.{◌≡◌, take}
use Rattle.ep_exec.specs.Layers.{layers_of}
use Rattle.ep_exec.proofs.layers.shared.Given as goal

abbrev pub invariant-loop-layer : goal.invariant-loop-layer
invariant-loop-layer l = layers_of l.copy.items ≡ layers_of (take l.layer-index l.layers)
