use Rattle.std.proofs.Common.{◌≡◌, length}
use Rattle.ep_rules.specs.OneMap.{Contents}
use Rattle.ep_exec.specs.Layers.{layers_of, stacked}
use Rattle.ep_exec.specs.Table.{over}
use Rattle.ep_exec.proofs.layers.gathered.Given as goal

abbrev pub invariant-loop-layer : goal.invariant-loop-layer
invariant-loop-layer l = (m : Contents) → over (stacked m (layers_of l.layers.items)) l.changes.entries ≡ over (stacked m (layers_of l.initial.layers.items)) l.fn.changes.entries

abbrev pub decreases-loop-layer : goal.decreases-loop-layer
decreases-loop-layer l = length l.layers.items
