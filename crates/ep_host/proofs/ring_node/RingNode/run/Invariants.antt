use Rattle.ep_host.specs.Follows.{Follows}
use Rattle.ep_host.specs.Turned.{AreTurns}
use Rattle.ep_host.proofs.ring_node.RingNode.run.Given as goal

abbrev pub invariant-loop : goal.invariant-loop
invariant-loop g l = record { follows : Follows l.initial.self l.self; turns : AreTurns l.counter l.initial.self l.self }
