use Rattle.std.specs.Prelude.{codes, map}
use Rattle.ep_json.proofs.Joined.{array_reported}
use Rattle.ep_report_json.specs.Items.{refused_item}
use Rattle.ep_report_json.proofs.reports.push_refused.Goals as goal

pub returns : goal.returns
returns c =
    array_reported c.args.text.now.items c.push_array_start.new.text.items c.push_refused_items.new.text.items c.push.new.self.items (codes "refused") (map refused_item c.args.refused.now)
    c.in_ok-push_array_start.ensures c.in_ok-push_refused_items.ensures c.in_ok-push.ensures.items
