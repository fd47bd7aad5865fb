use Rattle.std.proofs.Common.{subst, sym}
use Rattle.ep_host.specs.Node.{Node}
use Rattle.ep_host.specs.Rings.{IsFreshLink}
use Rattle.ep_host.proofs.Booking.{link_books}
use Rattle.ep_host.proofs.ring_node.RingNode.add_link.Goals as goal

pub invariant_of-self-2 : goal.invariant_of-self-2
invariant_of-self-2 c = (
  rw c.in_ok-push.ensures.items (link_books c.self.inside.replica.me c.self.inside.replica.entries c.self.inside.links.items c.args.link
      (subst (λ (n : Node). IsFreshLink n.replica.me n.links c.args.link) (sym c.self.view_is) c.requires) c.self.invariant.0),
  c.self.invariant.1,
)
