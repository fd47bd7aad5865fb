-- The parts make a summary, and with the schedule a verdict.
use Rattle.std.proofs.Common.{◌≡◌, ℕ, true, List, [], refl, ap, ◌∙◌}
use Rattle.ep_base.specs.Quorums.{size}
use Rattle.ep_rules.specs.Journals.{Journals, Scheduled, IsSchedule, AreLocalRuns}
use Rattle.ep_rules.specs.Verdicts.{agreed, IsTable}
use Rattle.ep_rules.proofs.Sorted.{some_schedule_lem}
use Rattle.ep_audit.specs.Lines.{lines_in}
use Rattle.ep_audit.specs.Closings.{operations_in, IsClosing}
use Rattle.ep_audit.specs.Verdicts.{places_of, summary_of, IsSummary, IsVerdict}
use Rattle.ep_audit.specs.Turns.{taken_of}
use Rattle.ep_audit.specs.declared.summary.Summary.{Summary}
use Rattle.ep_audit.specs.declared.verdict.Verdict.{Verdict}
use Rattle.ep_audit.proofs.Turning.{whole_taken}
use Rattle.ep_audit.proofs.Lining.{history_by}
use Rattle.ep_rules.specs.OneMap.{Store}

pub summary_is : (base : Store) (f : ℕ) (journal : Journals) (v : Summary) → AreLocalRuns base f journal → IsTable base f journal v.committed.items
    → ((s : List Scheduled) → IsSchedule journal s → v.history.items ≡ lines_in (agreed base f journal) [] s) → IsClosing journal (operations_in v.history.items) v.closing → IsSummary base f journal v
summary_is base f journal v runs table history closing =
    let s = some_schedule_lem (size f) journal runs.others (λ r. (runs.local r).0) in
    record { order = s.0; scheduled = s.1; committed = table; history = history_by base f journal (agreed base f journal) s.0 v.history.items (λ i. refl) (history s.0 s.1); closing = closing }

pub verdict_is : (base : Store) (f : ℕ) (journal : Journals) (v : Verdict) → ((s : List Scheduled) → IsSchedule journal s → v.schedule.items ≡ places_of (taken_of true s)) → IsSummary base f journal (summary_of v) → IsVerdict base f journal v
verdict_is base f journal v order says = record { says = says; schedule = order says.order says.scheduled ∙ ap places_of (whole_taken says.order) }
