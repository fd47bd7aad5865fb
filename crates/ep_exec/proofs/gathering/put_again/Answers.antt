use Rattle.std.proofs.Common.{◌∙◌}
use Rattle.ep_rules.specs.OneMap.{with_key}
use Rattle.ep_exec.specs.Table.{over}
use Rattle.ep_exec.proofs.Mixed.{put_over}
use Rattle.ep_exec.proofs.gathering.put_again.Goals as goal

pub returns-in-Ok-clause-ok : goal.returns-in-Ok-clause-ok
returns-in-Ok-clause-ok c = λ m.
    put_over m c.args.tree.now.entries c.insert.new.self.entries c.in_ok-name.name c.in_ok-value.value c.in-Ok.ensures.entries
    ∙ (λ i. with_key (over m c.args.tree.now.entries) (c.in_ok-name.ensures.items i) (c.in_ok-value.ensures i))
