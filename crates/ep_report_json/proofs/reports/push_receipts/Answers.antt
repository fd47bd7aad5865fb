use Rattle.std.specs.Prelude.{codes, map}
use Rattle.ep_json.proofs.Joined.{array_reported}
use Rattle.ep_report_json.specs.Items.{receipt_item}
use Rattle.ep_report_json.proofs.reports.push_receipts.Goals as goal

pub returns : goal.returns
returns c =
    array_reported c.args.text.now.items c.push_array_start.new.text.items c.push_receipt_items.new.text.items c.push.new.self.items (codes "receipts") (map receipt_item c.args.receipts.now)
    c.in_ok-push_array_start.ensures c.in_ok-push_receipt_items.ensures c.in_ok-push.ensures.items
