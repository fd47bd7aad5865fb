use Rattle.std.proofs.Common.{◌∙◌}
use Rattle.ep_explain.proofs.Reporting.{led_by}
use Rattle.ep_explain.proofs.scripts.refused_for.Goals as goal

pub returns : goal.returns
returns c =
    led_by c.args.subcommand c.args.line _ _ _ _ _ c.in_ok-push_led.ensures c.new-text.ensures.items
    (cc (c.deref.ensures.value, c.in_ok-push_number.ensures, c.in_ok-refused.ensures.items, c.from.ensures))
    (c.in_ok-first.ensures.0, c.deref-2.ensures.value ∙ c.in_ok-first.ensures.1)
