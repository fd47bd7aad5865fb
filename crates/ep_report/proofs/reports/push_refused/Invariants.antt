use Rattle.std.proofs.Common.{◌≡◌, ◌++◌, drop, map}
use Rattle.ep_report.specs.Reports.{text_of, refused_line}
use Rattle.ep_report.proofs.reports.push_refused.Given as goal

abbrev pub invariant-loop-line : goal.invariant-loop-line
invariant-loop-line l = l.text.items ++ text_of (map refused_line (drop l.line-index l.refused)) ≡ l.initial.text.items ++ text_of (map refused_line l.refused)
