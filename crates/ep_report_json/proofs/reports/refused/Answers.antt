use Rattle.std.proofs.Common.{map}
use Rattle.std.specs.Prelude.{codes}
use Rattle.ep_report_json.proofs.Objects.{whole}
use Rattle.ep_report_json.specs.Members.{member_of}
use Rattle.ep_report_json.proofs.reports.refused.Goals as goal

pub returns : goal.returns
returns c =
    whole c.in_ok-text.text.items c.push_members.new.text.items c.push_end.new.text.items (codes "refused") (map member_of c.args.members.now)
    c.in_ok-text.ensures c.in_ok-push_members.ensures c.in_ok-push_end.ensures
