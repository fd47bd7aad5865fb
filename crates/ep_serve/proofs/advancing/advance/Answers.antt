use Rattle.ep_serve.proofs.OwnSteps.{all_made, short_advance, stopped_advance}
use Rattle.ep_serve.proofs.advancing.advance.Goals as goal

pub returns-in-Ok-clause-ok : goal.returns-in-Ok-clause-ok
returns-in-Ok-clause-ok g c = all_made _ _ _ _ c.advance_own.ensures.some c.in-Ok.ensures.ok c.taken-from.ensures c.made_since.ensures

pub returns-in-Err-clause-ok : goal.returns-in-Err-clause-ok
returns-in-Err-clause-ok g c = stopped_advance _ _ _ _ _ c.advance_own.ensures.some c.in-Err.ensures.err c.taken-from.ensures c.stopped_by.ensures

pub returns-in-Err-clause-err : goal.returns-in-Err-clause-err
returns-in-Err-clause-err g c = short_advance _ _ _ _ c.advance_own.ensures.some c.in-Err.ensures.err
