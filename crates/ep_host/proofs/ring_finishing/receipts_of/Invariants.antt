use Rattle.std.proofs.Common.{◌≡◌, take}
use Rattle.ep_host.specs.RingFinishing.{replicas_in, their_receipts}
use Rattle.ep_host.proofs.ring_finishing.receipts_of.Given as goal

abbrev pub invariant-loop-node : goal.invariant-loop-node
invariant-loop-node l = l.receipts.items ≡ their_receipts (replicas_in (take l.node-index l.nodes))
