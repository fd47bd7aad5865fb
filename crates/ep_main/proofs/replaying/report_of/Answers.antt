use Rattle.std.proofs.Common.{rules}
use Rattle.ep_main.proofs.replaying.report_of.Goals as goal

pub returns-clause-value : goal.returns-clause-value
returns-clause-value c =
    record { summary = c.in_ok-summary.summary; audited = c.in_ok-summary.ensures.accepted c.args.played.now.receipts.items c.requires; printed = search rules }
