use Rattle.std.proofs.Common.{◌≡◌, ◌++◌, drop}
use Rattle.ep_node.proofs.reporting.frames_of.Given as goal
use Rattle.ep_journal.specs.Entries.{frames_of}

-- whatever the rest sends completes the whole
abbrev pub invariant-loop-entry : goal.invariant-loop-entry
invariant-loop-entry l = l.frames.items ++ frames_of (drop l.entry-index l.entries) ≡ frames_of l.entries
