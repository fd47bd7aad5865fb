use Rattle.ep_opening.proofs.Above.{Climbing}
use Rattle.ep_opening.proofs.stages.read_rising.Given as goal

abbrev pub invariant-loop : goal.invariant-loop
invariant-loop g l = Climbing l.generation l.count l.counter l.executed l.initial.place l.place (g.S.Source.left l.initial.source) (g.S.Source.left l.source)
