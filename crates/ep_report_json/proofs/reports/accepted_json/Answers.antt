use Rattle.std.specs.Option.{option_copied}
use Rattle.std.specs.Prelude.{codes}
use Rattle.ep_report_json.proofs.Objects.{whole}
use Rattle.ep_report_json.specs.JsonReports.{accepted_members}
use Rattle.ep_report_json.proofs.reports.accepted_json.Goals as goal

pub returns : goal.returns
returns c =
    whole c.in_ok-text.text.items c.push_found.new.text.items c.push_end.new.text.items (codes "accepted") (accepted_members (option_copied c.args.found.now.life) c.args.found.now.committed.now c.args.found.now.history.now c.args.found.now.receipts.now)
    c.in_ok-text.ensures c.in_ok-push_found.ensures c.in_ok-push_end.ensures
