use Rattle.std.proofs.Common.{◌≤◌, ◌<◌, ◌+◌, drop}
use Rattle.ep_exec.specs.Layers.{changes_in, layers_of}
use Rattle.ep_exec.proofs.layers.count.Given as goal

abbrev pub invariant-loop-layer : goal.invariant-loop-layer
invariant-loop-layer l = l.count < 4000000000 → changes_in (layers_of l.layers) ≤ l.count + changes_in (layers_of (drop l.layer-index l.layers))
