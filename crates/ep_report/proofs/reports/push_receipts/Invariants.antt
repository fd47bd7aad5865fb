use Rattle.std.proofs.Common.{◌≡◌, ◌++◌, drop, map}
use Rattle.ep_report.specs.Reports.{text_of, receipt_line}
use Rattle.ep_report.proofs.reports.push_receipts.Given as goal

abbrev pub invariant-loop-receipt : goal.invariant-loop-receipt
invariant-loop-receipt l = l.text.items ++ text_of (map receipt_line (drop l.receipt-index l.receipts)) ≡ l.initial.text.items ++ text_of (map receipt_line l.receipts)
