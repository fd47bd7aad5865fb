use Rattle.std.proofs.Common.{List, false}
use Rattle.ep_rules.specs.Journals.{Scheduled, IsSchedule}
use Rattle.ep_journal.specs.Entries.{journals_of}
use Rattle.ep_audit.specs.Turns.{taken_of}
use Rattle.ep_audit.specs.Tables.{agreed_in}
use Rattle.ep_audit.proofs.Lining.{Lined}
use Rattle.ep_audit.proofs.history.history_of.Given as goal

abbrev pub invariant-loop-replica : goal.invariant-loop-replica
invariant-loop-replica l = (s : List Scheduled) → IsSchedule (journals_of l.journals) s → Lined (agreed_in l.journals) (taken_of false s) l.seen.list l.lines.items l.replica-index
