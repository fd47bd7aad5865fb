use Rattle.std.proofs.Common.{refl}
use Rattle.ep_viewer.proofs.Ending.{not_traced, script_read, script_unwritten}
use Rattle.ep_viewer.proofs.tracing.trace_of.Goals as goal

pub returns-in_err-script-clause-made : goal.returns-in_err-script-clause-made
returns-in_err-script-clause-made g c zs known = not_traced c.in_err-script.field-0.0 _ zs c.from_residual.ensures.1 (c.in_err-script.ensures.bytes zs known)

pub returns-in_err-script-clause-read : goal.returns-in_err-script-clause-read
returns-in_err-script-clause-read g c = script_read c.in_err-script.field-0.0 _ _ _ c.from_residual.ensures.1 c.in_err-script.ensures.failed

pub returns-in_err-script-clause-unwritten : goal.returns-in_err-script-clause-unwritten
returns-in_err-script-clause-unwritten g c = script_unwritten c.in_err-script.field-0.0 _ c.from_residual.ensures.1

pub returns-in-Ok-clause-made : goal.returns-in-Ok-clause-made
returns-in-Ok-clause-made g c zs known out wrote =
    (refl, record { plan = c.in_ok-script.script; script = c.in_ok-script.ensures.bytes zs known; text = c.in-Ok.text.items; trace = c.in-Ok.ensures; wrote = wrote })

pub returns-in-Err-clause-made : goal.returns-in-Err-clause-made
returns-in-Err-clause-made g c zs known out silent = silent
