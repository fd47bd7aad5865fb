use Rattle.ep_serve.proofs.Sweeping.{all_swept, stopped_sweep}
use Rattle.ep_serve.proofs.executing.execute_all.Goals as goal

pub returns-then-not-swept-clause-ok : goal.returns-then-not-swept-clause-ok
returns-then-not-swept-clause-ok g c = stopped_sweep _ _ _ _ _ c.if-not-swept.true c.in_ok-swept.ensures.ok c.taken-from.ensures c.stopped_since.ensures

pub returns-clause-ok : goal.returns-clause-ok
returns-clause-ok g c = all_swept _ _ _ _ _ c.if-not-swept.false c.in_ok-swept.ensures.ok c.taken-from.ensures c.made_since.ensures
