use Rattle.std.proofs.Common.{◌∙◌}
use Rattle.ep_rules.specs.OneMap.{with_key}
use Rattle.ep_exec.specs.Table.{over}
use Rattle.ep_exec.proofs.Entries.{set_at}
use Rattle.ep_exec.proofs.changes.add.Goals as goal

pub returns-in-Ok : goal.returns-in-Ok
returns-in-Ok c = λ m.
    set_at m _ _ c.in_ok-name.name.items c.in_ok-value.value c.in-Ok.ensures.updates.1 c.in-Ok.ensures.updates.3
    ∙ (λ t. with_key (over m c.args.changes.now.entries) (c.in_ok-name.ensures.items t) (c.in_ok-value.ensures t))
