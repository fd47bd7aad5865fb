use Rattle.std.proofs.Common.{◌≡◌, ◌++◌, List, drop}
use Rattle.ep_journal.specs.declared.entry.Entry.{Entry}
use Rattle.ep_node.specs.Reporting.{commits_by, learnt_by, AreFirst}
use Rattle.ep_node.proofs.reporting.commits_by.Given as goal

-- whatever the rest commits completes the whole
abbrev pub invariant-loop-entry : goal.invariant-loop-entry
invariant-loop-entry l = (all : List Entry) → AreFirst learnt_by all l.table → l.committed.items ++ commits_by all (drop l.entry-index l.entries) ≡ commits_by all l.entries
