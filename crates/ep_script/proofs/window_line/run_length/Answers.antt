use Rattle.std.proofs.Common.{◌∙◌, min, ap}
use Rattle.std.specs.Prelude.{◌==◌}
use Rattle.ep_script.proofs.Splitting.{found_first, found_none}
use Rattle.ep_script.proofs.window_line.run_length.Goals as goal

pub returns-in-Some-clause-value : goal.returns-in-Some-clause-value
returns-in-Some-clause-value c = c.min.ensures ∙ ap (min c.args.room) (found_first (λ b. b == 10) c.args.bytes.now c.in-Some.place c.in-Some.ensures.0 c.in-Some.ensures.1)

pub returns-in-None-clause-value : goal.returns-in-None-clause-value
returns-in-None-clause-value c = c.min-in-None.ensures ∙ ap (min c.args.room) (found_none (λ b. b == 10) c.args.bytes.now c.in-None.ensures)
