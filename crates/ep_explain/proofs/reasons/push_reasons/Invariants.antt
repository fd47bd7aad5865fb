use Rattle.std.proofs.Common.{◌≡◌, ◌++◌, drop, map}
use Rattle.ep_report.specs.Reports.{text_of}
use Rattle.ep_explain.specs.Reasons.{reason_line}
use Rattle.ep_explain.proofs.reasons.push_reasons.Given as goal

abbrev pub invariant-loop-reason : goal.invariant-loop-reason
invariant-loop-reason l = l.text.items ++ text_of (map reason_line (drop l.reason-index l.reasons)) ≡ l.initial.text.items ++ text_of (map reason_line l.reasons)
