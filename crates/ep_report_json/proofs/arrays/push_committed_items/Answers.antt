use Rattle.std.proofs.Common.{ℕ, List, ◌++◌, ap, ◌∙◌}
use Rattle.ep_report_json.proofs.Objects.{map_more}
use Rattle.ep_report_json.specs.Items.{committed_item}
use Rattle.ep_report_json.proofs.arrays.push_committed_items.Goals as goal

pub loop-instance-preserved : goal.loop-instance-preserved
loop-instance-preserved c =
    map_more committed_item c.loop-instance.instance-index c.args.committed.now c.loop-instance-item.result _ c.loop-instance.at_start c.loop-instance.text.items _ _ c.loop-instance-test.true c.loop-instance-item.is c.loop-instance.invariant
    (c.in_ok-push_committed_item.ensures ∙ ap (λ (t : List ℕ). t ++ committed_item c.loop-instance-item.result) c.in_ok-push_comma.ensures)
