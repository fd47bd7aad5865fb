use Rattle.std.proofs.Common.{[], ◌∷◌}
use Rattle.std.specs.Option.{option_copied}
use Rattle.ep_report.specs.Reports.{replay_lines, lost_line}
use Rattle.ep_report.proofs.Texts.{longer_text}
use Rattle.ep_report.proofs.reports.run_report.Goals as goal

pub returns : goal.returns
returns c =
    longer_text c.in_ok-text.text.items c.push_lost_line.new.text.items
    (replay_lines (option_copied c.args.found.now.life) c.args.found.now.committed.now c.args.found.now.history.now c.args.found.now.receipts.now c.args.losses.refused.now) (lost_line c.args.losses.lost ∷ [])
    c.in_ok-text.ensures c.in_ok-push_lost_line.ensures
