use Rattle.std.proofs.Common.{rules}
use Rattle.ep_main.proofs.Verdicts.{bundled_in, bundled_refused}
use Rattle.ep_main.proofs.running.judge_bundled.Goals as goal

pub returns-in-Ok-clause-value : goal.returns-in-Ok-clause-value
returns-in-Ok-clause-value c = bundled_in c.args.ran.now c.in-Ok.field-0 c.in_ok-text.text.items (search rules) c.requires.finished (search rules)

pub returns-in-Err-clause-value : goal.returns-in-Err-clause-value
returns-in-Err-clause-value c = bundled_refused c.args.ran.now c.in-Err.field-0 c.in_ok-text.text.items (search rules) c.requires.finished (search rules)
