use Rattle.std.proofs.Common.{◌≡◌, take}
use Rattle.ep_run.specs.Rings.{entry_counts}
use Rattle.ep_run.proofs.collecting.entry_counts.Given as goal

abbrev pub invariant-loop-node : goal.invariant-loop-node
invariant-loop-node l = l.counts.items ≡ entry_counts (take l.node-index l.nodes)
