use Rattle.std.proofs.Common.{◌≡◌, ◌≤◌}
use Rattle.ep_patience.specs.Peers.{count}
use Rattle.ep_patience.proofs.peers.count.Given as goal

abbrev pub invariant-loop-r : goal.invariant-loop-r
invariant-loop-r l = record { counted : l.count ≡ count l.place l.peers l.spared l.r; bounded : l.count ≤ l.r }
