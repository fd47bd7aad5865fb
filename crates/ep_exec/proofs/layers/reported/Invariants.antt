use Rattle.std.proofs.Common.{◌≡◌, drop, None}
use Rattle.std.specs.Option.{option_copied}
use Rattle.ep_exec.specs.Layers.{layers_of, reported_by}
use Rattle.ep_exec.proofs.layers.reported.Given as goal

abbrev pub invariant-loop-layer : goal.invariant-loop-layer
invariant-loop-layer l = reported_by l.key (option_copied l.reported) (layers_of (drop l.layer-index l.layers)) ≡ reported_by l.key None (layers_of l.layers)
