use Rattle.std.proofs.Common.{◌≡◌, ◌++◌, drop, map, true}
use Rattle.ep_json.specs.Values.{joined}
use Rattle.ep_report_json.specs.Items.{receipt_item}
use Rattle.ep_report_json.proofs.arrays.push_receipt_items.Given as goal

abbrev pub invariant-loop-receipt : goal.invariant-loop-receipt
invariant-loop-receipt l = l.text.items ++ joined l.at_start (map receipt_item (drop l.receipt-index l.receipts)) ≡ l.initial.text.items ++ joined true (map receipt_item l.receipts)
