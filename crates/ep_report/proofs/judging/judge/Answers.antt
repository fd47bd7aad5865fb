use Rattle.std.proofs.Common.{rules}
use Rattle.ep_report.proofs.judging.judge.Goals as goal

pub returns-in_ok-text-in-Ok : goal.returns-in_ok-text-in-Ok
returns-in_ok-text-in-Ok c = (c.in-Ok.summary, search rules, search rules)
