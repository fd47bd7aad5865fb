use Rattle.ep_host.specs.Follows.{Settles}
use Rattle.ep_host.specs.Pointwise.{Each}
use Rattle.ep_host.proofs.Looks.{AreLeft}
use Rattle.ep_host.proofs.settling.turn_all.Given as goal

abbrev pub invariant-loop-done : goal.invariant-loop-done
invariant-loop-done l = record { settles : Each (Settles l._done) l.initial.nodes l.nodes; rounds : AreLeft l._done l.rounds l.initial.nodes l.nodes }
