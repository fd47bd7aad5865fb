use Rattle.ep_main.proofs.Literals.{asked_in_match, asked_in_place, task_of_met, task_of_shown, help_is_met, help_is_no_match}
use Rattle.ep_main.proofs.command_line.read_words.Goals as goal

pub returns-in-Ok-clause-asked : goal.returns-in-Ok-clause-asked
returns-in-Ok-clause-asked g c want ask =
    asked_in_match want _ _ _ _ c.in_ok-command.ensures c.in-Ok.ensures.matches c.in-Ok.ensures.kinds c.task_by.ensures.replay c.task_by.ensures.run c.task_by.ensures.audit c.task_by.ensures.upgrade ask

pub returns-in-Err-clause-asked : goal.returns-in-Err-clause-asked
returns-in-Err-clause-asked g c want ask =
    asked_in_place want _ _ _ _ c.in_ok-command.ensures c.in-Err.ensures.passes c.in-Err.ensures.kinds c.task_instead.ensures.memory c.task_instead.ensures.version ask

pub returns-in-Ok-clause-only : goal.returns-in-Ok-clause-only
returns-in-Ok-clause-only g c = task_of_met _ _ _ _ c.in_ok-command.ensures c.in-Ok.ensures.matches c.task_by.ensures.only

pub returns-in-Err-clause-only : goal.returns-in-Err-clause-only
returns-in-Err-clause-only g c = task_of_shown _ _ _ _ c.in_ok-command.ensures c.in-Err.ensures.kinds c.task_instead.ensures.only

pub returns-in-Ok-clause-help : goal.returns-in-Ok-clause-help
returns-in-Ok-clause-help g c ask = help_is_no_match _ _ c.in_ok-command.ensures c.in-Ok.ensures.kinds ask

pub returns-in-Err-clause-help : goal.returns-in-Err-clause-help
returns-in-Err-clause-help g c ask =
    help_is_met _ _ _ _ c.in_ok-command.ensures c.in-Err.ensures.kinds c.task_instead.ensures.memory c.task_instead.ensures.help ask
