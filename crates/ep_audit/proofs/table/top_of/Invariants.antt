use Rattle.std.proofs.Common.{◌≡◌, ◌≤◌, ◌<◌, ℕ, None}
use Rattle.ep_base.specs.Instances.{number_of, highest_number}
use Rattle.ep_rules.specs.Verdicts.{agreed_below}
use Rattle.ep_journal.specs.Entries.{journals_of}
use Rattle.ep_journal.specs.Openings.{opens}
use Rattle.ep_audit.proofs.table.top_of.Given as goal

abbrev pub invariant-loop-replica : goal.invariant-loop-replica
invariant-loop-replica l = record {
  bounded : l.top ≤ highest_number;
  none : (i : ℕ) → l.top < number_of i → agreed_below (opens l.journals.opening) l.replica l.journals.faults (journals_of l.journals) i ≡ None;
}
