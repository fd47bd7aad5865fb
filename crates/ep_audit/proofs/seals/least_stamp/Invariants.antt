use Rattle.std.proofs.Common.{◌≡◌}
use Rattle.ep_journal.specs.Entries.{journals_of}
use Rattle.ep_audit.specs.Sealed.{least_below}
use Rattle.ep_audit.proofs.seals.least_stamp.Given as goal

abbrev pub invariant-loop-replica : goal.invariant-loop-replica
invariant-loop-replica l = l.best ≡ least_below l.replica (journals_of l.journals) l.instance
