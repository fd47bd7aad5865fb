use Rattle.std.proofs.Common.{◌≡◌, length}
use Rattle.ep_host.specs.Turns.{Takes}
use Rattle.ep_host.proofs.ring_node.RingNode.take_all.Given as goal

abbrev pub invariant-loop-place : goal.invariant-loop-place
invariant-loop-place l = record { takes : Takes l.place l.moved l.initial.self l.self; end : l.place-end ≡ length l.initial.self.links }
