use Rattle.std.proofs.Common.{◌≡◌, ◌++◌, drop}
use Rattle.ep_rules.specs.OneMap.{after_all}
use Rattle.ep_rules.specs.States.{command_in}
use Rattle.ep_journal.specs.Executing.{done_by}
use Rattle.ep_journal.proofs.execute.try_all.Given as goal

abbrev pub invariant-loop-id : goal.invariant-loop-id
invariant-loop-id l = record {
  start : l.trial.start ≡ l.fn.trial.start;
  done : l.done.items ++ done_by (command_in l.space.records) l.trial.current (drop l.id-index l.order) ≡ done_by (command_in l.space.records) l.fn.trial.current l.order;
  current : after_all (command_in l.space.records) l.trial.current (drop l.id-index l.order) ≡ after_all (command_in l.space.records) l.fn.trial.current l.order;
}
