use Rattle.ep_host.specs.Outboxes.{CountsFromNone}
use Rattle.ep_host.proofs.Places.{Firsts}
use Rattle.ep_host.proofs.outlets.count_anew.Given as goal

abbrev pub invariant-loop-place : goal.invariant-loop-place
invariant-loop-place l = Firsts CountsFromNone l.place l.initial.outlets l.outlets
