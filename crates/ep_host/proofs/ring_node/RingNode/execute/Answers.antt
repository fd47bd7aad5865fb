use Rattle.ep_host.proofs.Booking.{executes_books}
use Rattle.ep_host.proofs.ring_node.RingNode.execute.Goals as goal

pub invariant_of-self : goal.invariant_of-self
invariant_of-self c = (executes_books c.execute_next.result c.self.inside.replica c.execute_next.new.self c.self.inside.links.items c.execute_next.ensures c.self.invariant.0, c.self.invariant.1)
