use Rattle.std.proofs.Common.{inl, inr, refl}
use Rattle.std.proofs.KnownBytes.{Appends-nil}
use Rattle.ep_main.proofs.Ending.{declines, ends_declined, helps_none, performs_none, task_done, task_ends, task_helped, works_asked}
use Rattle.ep_main.proofs.program.engine.Goals as goal

pub returns-in-Ok-clause-asked : goal.returns-in-Ok-clause-asked
returns-in-Ok-clause-asked g c want ask zs known =
    works_asked c.in-Ok.task want _ _ _ _ _ (c.in-Ok.ensures.asked want ask) (c.work.ensures.works zs known)

pub returns-in-Ok-clause-other : goal.returns-in-Ok-clause-other
returns-in-Ok-clause-other g c zs known = inr (task_done c.in-Ok.task _ _ zs _ _ _ c.in-Ok.ensures.only (c.work.ensures.works zs known))

pub returns-in-Ok-clause-help : goal.returns-in-Ok-clause-help
returns-in-Ok-clause-help g c ask zs known = task_helped c.in-Ok.task _ _ _ _ _ (c.in-Ok.ensures.help ask) (c.work.ensures.works zs known)

pub returns-in-Ok-clause-ends : goal.returns-in-Ok-clause-ends
returns-in-Ok-clause-ends g c = task_ends c.in-Ok.task _ _ _ _ _ c.in-Ok.ensures.only c.work.ensures.ends

pub returns-in-Err-clause-ends : goal.returns-in-Err-clause-ends
returns-in-Err-clause-ends g c = inl (ends_declined _ _ _ _ _ c.decline.ensures refl refl)

pub returns-in-Err-clause-asked : goal.returns-in-Err-clause-asked
returns-in-Err-clause-asked g c want ask zs known =
    performs_none want c.in-Err.why _ zs _ _ _ _ ask (c.in-Err.ensures.asked want ask) c.decline.ensures (Appends-nil _)

pub returns-in-Err-clause-help : goal.returns-in-Err-clause-help
returns-in-Err-clause-help g c ask zs known = helps_none c.in-Err.why _ _ _ (c.in-Err.ensures.help ask) c.decline.ensures (Appends-nil _)

pub returns-in-Err-clause-other : goal.returns-in-Err-clause-other
returns-in-Err-clause-other g c zs known = inl (declines _ _ _ _ c.decline.ensures (Appends-nil _))
