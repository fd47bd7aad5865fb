use Rattle.ep_host.specs.Setting.{IsReleased}
use Rattle.ep_host.proofs.Places.{Firsts}
use Rattle.ep_host.proofs.ring_host.RingHost.release.Given as goal

abbrev pub invariant-loop-place : goal.invariant-loop-place
invariant-loop-place l = Firsts IsReleased l.place l.initial.nodes l.nodes
