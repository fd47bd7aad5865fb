use Rattle.std.proofs.Common.{◌++◌, Option, ap, ◌∙◌}
use Rattle.std.specs.Prelude.{codes}
use Rattle.ep_audit.specs.declared.closing.Closing.{Closing}
use Rattle.ep_report_json.proofs.Objects.{two_members}
use Rattle.ep_report_json.specs.Items.{closing_value, contents_value}
use Rattle.ep_rules.specs.OneMap.{Contents}
use Rattle.ep_report_json.proofs.reports.push_closing.Goals as goal

pub returns : goal.returns
returns c =
    two_members c.args.text.now.items c.push_comma.new.text.items c.push_name.new.text.items c.push_closing_value.new.text.items c.push_comma-2.new.text.items c.push_name-2.new.text.items
    c.push_contents_value.new.text.items (codes "closed") (closing_value c.args.life.now.closing) (codes "contents") (contents_value c.args.life.now.contents)
    c.in_ok-push_comma.ensures c.in_ok-push_name.ensures
    (c.in_ok-push_closing_value.ensures ∙ ap (λ (x : Option Closing). c.push_name.new.text.items ++ closing_value x) c.closing.ensures)
    c.in_ok-push_comma-2.ensures c.in_ok-push_name-2.ensures
    (c.in_ok-push_contents_value.ensures ∙ ap (λ (m : Contents). c.push_name-2.new.text.items ++ contents_value m) c.contents.ensures.value)
