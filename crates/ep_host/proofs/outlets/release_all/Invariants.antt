use Rattle.ep_host.specs.Outboxes.{LetsGo}
use Rattle.ep_host.proofs.Losing.{LosesFirst}
use Rattle.ep_host.proofs.outlets.release_all.Given as goal

abbrev pub invariant-loop-place : goal.invariant-loop-place
invariant-loop-place g l = LosesFirst LetsGo l.place l.initial.lost l.lost l.initial.outlets l.outlets
