use Rattle.ep_host.proofs.Mailing.{LettingGo}
use Rattle.ep_host.proofs.outlet.Outlet.release.Given as goal

abbrev pub invariant-loop : goal.invariant-loop
invariant-loop g l = LettingGo l.lost l.counter l.initial.self l.self
