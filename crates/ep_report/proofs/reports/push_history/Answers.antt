use Rattle.ep_report.proofs.Texts.{text_of_history}
use Rattle.ep_report.proofs.reports.push_history.Goals as goal

pub returns : goal.returns
returns c = text_of_history c.args.text.now.items c.push_heading.new.text.items c.push_history_lines.new.text.items c.args.history.now c.in_ok-push_heading.ensures c.in_ok-push_history_lines.ensures
