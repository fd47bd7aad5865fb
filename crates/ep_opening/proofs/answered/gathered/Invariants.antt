use Rattle.std.proofs.Common.{take, []}
use Rattle.ep_journal.specs.Entries.{entries_of}
use Rattle.ep_opening.specs.Closing.{WasAnswered}
use Rattle.ep_opening.specs.Gathering.{Gains}
use Rattle.ep_opening.proofs.answered.gathered.Given as goal

abbrev pub invariant-loop-entry : goal.invariant-loop-entry
invariant-loop-entry l = Gains (WasAnswered (entries_of (take l.entry-index l.entries))) [] l.set.list
