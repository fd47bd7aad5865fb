use Rattle.std.proofs.Common.{◌≡◌, ◌++◌, drop}
use Rattle.ep_node.specs.Reporting.{executed_by}
use Rattle.ep_node.proofs.reporting.executed_by.Given as goal

-- whatever the rest executes completes the whole
abbrev pub invariant-loop-entry : goal.invariant-loop-entry
invariant-loop-entry l = l.executed.items ++ executed_by (drop l.entry-index l.entries) ≡ executed_by l.entries
