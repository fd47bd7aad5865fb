use Rattle.std.proofs.Common.{◌≡◌, None}
use Rattle.ep_rules.specs.Verdicts.{agreed_below}
use Rattle.ep_journal.specs.Entries.{journals_of}
use Rattle.ep_view.proofs.edges.agreed.Given as goal
use Rattle.ep_journal.specs.Openings.{opens}

abbrev pub invariant-loop-replica : goal.invariant-loop-replica
invariant-loop-replica l = agreed_below (opens l.journals.opening) l.replica l.journals.faults (journals_of l.journals) l.instance ≡ None
