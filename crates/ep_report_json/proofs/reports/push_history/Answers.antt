use Rattle.std.specs.Prelude.{codes}
use Rattle.ep_json.proofs.Joined.{array_reported}
use Rattle.ep_report_json.specs.Items.{history_items}
use Rattle.ep_report_json.proofs.reports.push_history.Goals as goal

pub returns : goal.returns
returns c =
    array_reported c.args.text.now.items c.push_array_start.new.text.items c.push_history_items.new.text.items c.push.new.self.items (codes "history") (history_items 1 c.args.history.now)
    c.in_ok-push_array_start.ensures c.in_ok-push_history_items.ensures c.in_ok-push.ensures.items
