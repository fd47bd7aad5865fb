use Rattle.std.proofs.Common.{◌++◌, ◌∙◌}
use Rattle.ep_trace.specs.Traced.{tried_lines}
use Rattle.ep_view.specs.Editions.{edition_line}
use Rattle.ep_trace.proofs.Tracing.{left_after}
use Rattle.ep_trace.proofs.traced.push_ended.Goals as goal

pub returns : goal.returns
returns c =
    let w = c.args.ended.now.world in
    left_after c.push_left.result w c.as_slice-ungiven.result.now c.args.ended.now.ungiven.items (c.args.text.now.items ++ edition_line w.version w.opening ++ tried_lines w c.args.ended.now.tried.items) c.push_all_tried.new.text.items c.push_left.new.text.items c.as_slice-ungiven.ensures.value
    (c.in_ok-push_all_tried.ensures ∙ (λ i. (c.in_ok-push_edition.ensures ∙ (λ j. c.args.text.now.items ++ edition_line (c.version.ensures j) (c.opening.ensures j))) i ++ tried_lines w (c.as_slice-tried.ensures.value i)))
    c.push_left.ensures
