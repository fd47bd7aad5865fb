use Rattle.std.proofs.Common.{◌≡◌, drop}
use Rattle.ep_journal.specs.Openings.{opens}
use Rattle.ep_rules.specs.OneMap.{after_commands}
use Rattle.ep_audit.specs.Verdicts.{commands_in}
use Rattle.ep_audit.proofs.contents.contents_of.Given as goal

abbrev pub invariant-loop-happening : goal.invariant-loop-happening
invariant-loop-happening l = after_commands l.store (commands_in (drop l.happening-index l.history)) ≡ after_commands (opens l.opening) (commands_in l.history)
