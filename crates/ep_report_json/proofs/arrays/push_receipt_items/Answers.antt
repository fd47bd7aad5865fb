use Rattle.std.proofs.Common.{ℕ, List, ◌++◌, ap, ◌∙◌}
use Rattle.ep_report_json.proofs.Objects.{map_more}
use Rattle.ep_report_json.specs.Items.{receipt_item}
use Rattle.ep_report_json.proofs.arrays.push_receipt_items.Goals as goal

pub loop-receipt-preserved : goal.loop-receipt-preserved
loop-receipt-preserved c =
    map_more receipt_item c.loop-receipt.receipt-index c.args.receipts.now c.receipt-item.result _ c.loop-receipt.at_start c.loop-receipt.text.items _ _ c.loop-receipt-test.true c.receipt-item.is c.loop-receipt.invariant
    (c.in_ok-push_receipt_item.ensures ∙ ap (λ (t : List ℕ). t ++ receipt_item c.receipt-item.result) c.in_ok-push_comma.ensures)
