use Rattle.ep_prepare.proofs.counting.act_by.Goals as goal

pub returns-clause-ok : goal.returns-clause-ok
returns-clause-ok c = rw c.choice_of-choice.ensures at c.act_on.ensures.ok

pub returns-clause-refused : goal.returns-clause-refused
returns-clause-refused c = rw c.choice_of-choice.ensures at c.act_on.ensures.refused
