use Rattle.std.proofs.Common.{ℕ, List, ◌++◌, ap, ◌∙◌}
use Rattle.ep_report_json.proofs.Objects.{map_more}
use Rattle.ep_report_json.specs.Items.{refused_item}
use Rattle.ep_report_json.proofs.arrays.push_refused_items.Goals as goal

pub loop-line-preserved : goal.loop-line-preserved
loop-line-preserved c =
    map_more refused_item c.loop-line.line-index c.args.refused.now c.loop-line-item.result _ c.loop-line.at_start c.loop-line.text.items _ _ c.loop-line-test.true c.loop-line-item.is c.loop-line.invariant
    (c.in_ok-push_refused_item.ensures ∙ ap (λ (t : List ℕ). t ++ refused_item c.loop-line-item.result) c.in_ok-push_comma.ensures)
