use Rattle.std.proofs.Common.{◌≡◌, rules}
use Rattle.ep_assemble.proofs.MapsOfLogs.{shown_by}
use Rattle.ep_assemble.proofs.showing.show_map.Goals as goal

pub returns-in-Ok-show_log-clause-ok : goal.returns-in-Ok-show_log-clause-ok
returns-in-Ok-show_log-clause-ok c =
    shown_by c.args.generation c.args.kept.now.opening.items c.deref.result.now c.args.kept.now.digest c.args.kept.now.log.items c.deref-in-Ok.result.now
    c.in-Ok-show_log.shown.text.items c.in-Ok-show_log.shown.end c.in-Ok.file c.deref.ensures.value c.deref-in-Ok.ensures.value c.in-Ok.ensures.ok c.in-Ok-show_log.ensures.ok
