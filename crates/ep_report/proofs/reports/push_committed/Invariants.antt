use Rattle.std.proofs.Common.{◌≡◌, ◌++◌, drop, map}
use Rattle.ep_report.specs.Reports.{text_of, committed_line}
use Rattle.ep_report.proofs.reports.push_committed.Given as goal

abbrev pub invariant-loop-instance : goal.invariant-loop-instance
invariant-loop-instance l = l.text.items ++ text_of (map committed_line (drop l.instance-index l.committed)) ≡ l.initial.text.items ++ text_of (map committed_line l.committed)
