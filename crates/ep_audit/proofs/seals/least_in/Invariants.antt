use Rattle.std.proofs.Common.{◌≡◌, drop}
use Rattle.ep_journal.specs.Entries.{entries_of}
use Rattle.ep_audit.specs.Sealed.{least_in}
use Rattle.ep_audit.proofs.seals.least_in.Given as goal

abbrev pub invariant-loop-entry : goal.invariant-loop-entry
invariant-loop-entry l = least_in l.instance (entries_of (drop l.entry-index l.entries)) l.best ≡ least_in l.instance (entries_of l.entries) l.initial.best
