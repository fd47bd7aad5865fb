use Rattle.std.specs.Option.{option_copied}
use Rattle.ep_report.specs.Reports.{accepted_lines, refused_lines}
use Rattle.ep_report.proofs.Texts.{longer_text}
use Rattle.ep_report.proofs.reports.report.Goals as goal

pub returns : goal.returns
returns c =
    longer_text c.in_ok-text.text.items c.push_refused.new.text.items
    (accepted_lines (option_copied c.args.found.now.life) c.args.found.now.committed.now c.args.found.now.history.now c.args.found.now.receipts.now) (refused_lines c.args.refused.now)
    c.in_ok-text.ensures c.in_ok-push_refused.ensures
