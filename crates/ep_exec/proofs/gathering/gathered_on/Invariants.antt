use Rattle.std.proofs.Common.{◌≡◌, List}
use Rattle.ep_exec.specs.Layers.{layers_of}
use Rattle.ep_exec.specs.Settling.{IsGathering}
use Rattle.ep_exec.specs.Table.{Entry}
use Rattle.ep_exec.proofs.gathering.gathered_on.Given as goal

abbrev pub invariant-loop-left : goal.invariant-loop-left
invariant-loop-left l = (since : List Entry) → IsGathering since (layers_of l.layers) l.fn.gathering → IsGathering since (layers_of l.layers) l.gathering

abbrev pub decreases-loop-left : goal.decreases-loop-left
decreases-loop-left l = l.left
