use Rattle.std.proofs.Common.{ℕ, List, ◌++◌}
use Rattle.std.specs.Option.{option_copied}
use Rattle.std.specs.Prelude.{codes}
use Rattle.ep_json.proofs.Joined.{joined_more}
use Rattle.ep_report_json.proofs.Objects.{whole}
use Rattle.ep_report_json.specs.JsonReports.{accepted_members, refused_members}
use Rattle.ep_report_json.proofs.reports.report_json.Goals as goal

pub returns : goal.returns
returns c =
    let found : List (List ℕ) = accepted_members (option_copied c.args.found.now.life) c.args.found.now.committed.now c.args.found.now.history.now c.args.found.now.receipts.now in
    let refused : List (List ℕ) = refused_members c.args.refused.now in
    whole c.in_ok-text.text.items c.push_refused.new.text.items c.push_end.new.text.items (codes "accepted") (found ++ refused)
    c.in_ok-text.ensures
    (joined_more c.in_ok-text.text.items c.push_found.new.text.items c.push_refused.new.text.items found refused c.in_ok-push_found.ensures c.in_ok-push_refused.ensures)
    c.in_ok-push_end.ensures
