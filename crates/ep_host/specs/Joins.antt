-- What joining two nodes by rings does.
use Rattle.std.specs.Prelude.{◌≡◌, ℕ, ◌<◌, length}
use Rattle.rtrb.specs.Ring.{IsPair}
use Rattle.ep_host.specs.Host.{IsRoomy}
use Rattle.ep_host.specs.Node.{Node, with_link}
use Rattle.ep_host.specs.Rings.{place}
use Rattle.ep_host.specs.declared.link.Link.{Link}

-- a goes before b, and each has its next place for the other
pub record CanJoin (a b : Node) : Type 0 where
  pub before : a.replica.me < b.replica.me
  pub there : place a.replica.me b.replica.me ≡ length a.links
  pub here : place b.replica.me a.replica.me ≡ length b.links

-- each has one link more, to the other, and the two have both ends of a ring each way, with room for so many frames
pub record Joins (capacity : ℕ) (a b a' b' : Node) : Type 0 where
  pub there : Link
  pub here : Link
  pub a_is : a' ≡ with_link a there
  pub b_is : b' ≡ with_link b here
  pub there_peer : there.peer ≡ b.replica.me
  pub here_peer : here.peer ≡ a.replica.me
  pub there_room : IsRoomy capacity there
  pub here_room : IsRoomy capacity here
  pub out : IsPair there.to here.from
  pub back : IsPair here.to there.from
