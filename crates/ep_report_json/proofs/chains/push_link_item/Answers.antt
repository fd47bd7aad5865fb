use Rattle.std.proofs.Common.{[], ◌∷◌, Some}
use Rattle.std.specs.Prelude.{codes, decimal}
use Rattle.ep_json.specs.Values.{member}
use Rattle.ep_report_json.proofs.Objects.{object_reported}
use Rattle.ep_report_json.specs.JsonReports.{closing_members}
use Rattle.ep_report_json.proofs.chains.push_link_item.Goals as goal

pub returns : goal.returns
returns c =
    object_reported c.args.text.now.items c.push.new.self.items c.push_generation.new.text.items c.push_members.new.text.items c.push_closing.new.text.items c.push-2.new.self.items
    (member (codes "generation") (decimal c.args.life.now.generation)) (member (codes "since") (decimal c.args.life.now.base_stamp) ∷ [])
    (member (codes "committed") (decimal c.args.committed) ∷ member (codes "history") (decimal c.args.history) ∷ []) (closing_members (Some c.args.life.now))
    c.in_ok-push.ensures.items c.in_ok-push_generation.ensures c.in_ok-push_members.ensures c.in_ok-push_closing.ensures c.in_ok-push-2.ensures.items
