use Rattle.std.proofs.Common.{◌∙◌}
use Rattle.std.specs.Option.{option_copied}
use Rattle.std.specs.Prelude.{codes, map}
use Rattle.ep_report.specs.Lives.{generation_lines, closing_lines}
use Rattle.ep_report.specs.Reports.{counted, committed_line, history_lines, receipt_line}
use Rattle.ep_report.proofs.Texts.{text_of_parts}
use Rattle.ep_report.proofs.reports.accepted.Goals as goal

pub returns : goal.returns
returns c =
    text_of_parts (codes "verdict accepted")
    (generation_lines (option_copied c.args.found.now.life))
    (counted (codes "committed") (map committed_line c.args.found.now.committed.now))
    (counted (codes "history") (history_lines 1 c.args.found.now.history.now))
    (closing_lines (option_copied c.args.found.now.life))
    (counted (codes "receipts") (map receipt_line c.args.found.now.receipts.now))
    c.reserve.new.self.items c.push_generation_lines.new.text.items c.push_committed.new.text.items c.push_history.new.text.items c.push_closing_lines.new.text.items c.push_receipts.new.text.items
    (c.reserve.ensures.items ∙ c.in_ok-text.ensures.items) c.in_ok-push_generation_lines.ensures c.in_ok-push_committed.ensures c.in_ok-push_history.ensures c.in_ok-push_closing_lines.ensures c.in_ok-push_receipts.ensures
