use Rattle.ep_host.proofs.Releasing.{Releasing}
use Rattle.ep_host.proofs.link.Link.release.Given as goal

abbrev pub invariant-loop : goal.invariant-loop
invariant-loop l = Releasing l.lost l.counter l.initial.self l.self
