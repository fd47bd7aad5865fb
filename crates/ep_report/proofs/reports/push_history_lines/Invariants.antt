use Rattle.std.proofs.Common.{◌≡◌, ◌+◌, ◌++◌, drop}
use Rattle.ep_report.specs.Reports.{text_of, history_lines}
use Rattle.ep_report.proofs.reports.push_history_lines.Given as goal

abbrev pub invariant-loop-index : goal.invariant-loop-index
invariant-loop-index l = l.text.items ++ text_of (history_lines (l.index + 1) (drop l.index l.history)) ≡ l.initial.text.items ++ text_of (history_lines 1 l.history)
