use Rattle.std.proofs.Common.{ℕ, ◌+◌, List, ◌++◌, ap, ◌∙◌}
use Rattle.ep_report_json.proofs.Objects.{history_more}
use Rattle.ep_report_json.specs.Items.{history_item}
use Rattle.ep_report_json.proofs.arrays.push_history_items.Goals as goal

pub loop-index-preserved : goal.loop-index-preserved
loop-index-preserved c =
    history_more c.loop-index.index c.args.history.now c.index-history-index.result _ c.loop-index.at_start c.loop-index.text.items _ _ c.loop-index-test.true c.index-history-index.is
    c.loop-index.invariant
    (c.in_ok-push_history_item.ensures ∙ ap (λ (t : List ℕ). t ++ history_item (c.loop-index.index + 1) c.index-history-index.result) c.in_ok-push_comma.ensures)
