use Rattle.std.proofs.Common.{◌≡◌}
use Rattle.ep_patience.specs.Peers.{slowest}
use Rattle.ep_patience.proofs.peers.slowest.Given as goal

abbrev pub invariant-loop-r : goal.invariant-loop-r
invariant-loop-r l = l.wait ≡ slowest l.waits l.place l.peers l.spared l.r
