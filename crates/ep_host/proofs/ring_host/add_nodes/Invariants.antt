use Rattle.std.proofs.Common.{◌≡◌, length}
use Rattle.ep_host.proofs.Hosting.{AreLinked, AreJoined}
use Rattle.ep_host.proofs.ring_host.add_nodes.Given as goal

abbrev pub invariant-loop-number : goal.invariant-loop-number
invariant-loop-number l = record { linked : AreLinked l.capacity l.cluster (l.beginning.version, l.beginning.opening) l.nodes.items; count : length l.nodes.items ≡ l.number }

abbrev pub invariant-loop-place : goal.invariant-loop-place
invariant-loop-place l = record { joined : AreJoined l.capacity l.cluster (l.beginning.version, l.beginning.opening) l.place l.nodes.items l.node; count : length l.nodes.items ≡ l.number; end : l.place-end ≡ length l.nodes.items }
