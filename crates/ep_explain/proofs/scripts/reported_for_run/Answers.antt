use Rattle.std.proofs.Common.{◌∙◌}
use Rattle.ep_explain.proofs.Reporting.{run_read}
use Rattle.ep_explain.proofs.scripts.reported_for_run.Goals as goal

pub returns : goal.returns
returns c = run_read _ _ _ _ c.in_ok-push_led.ensures c.new-text.ensures.items c.requires (c.in_ok-why.ensures.0, c.deref.ensures.value ∙ c.in_ok-why.ensures.1)
