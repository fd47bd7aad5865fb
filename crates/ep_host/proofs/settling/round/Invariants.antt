use Rattle.std.proofs.Common.{◌≡◌, length}
use Rattle.ep_host.specs.Follows.{Rounds}
use Rattle.ep_host.specs.Turned.{IsTurnIn}
use Rattle.ep_host.proofs.Places.{Firsts}
use Rattle.ep_host.proofs.settling.round.Given as goal

abbrev pub invariant-loop-place : goal.invariant-loop-place
invariant-loop-place l = record { firsts : Firsts (Rounds l.moved) l.place l.initial.nodes l.nodes; turns : Firsts (IsTurnIn l.moved) l.place l.initial.nodes l.nodes; end : l.place-end ≡ length l.initial.nodes }
