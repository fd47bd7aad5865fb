use Rattle.std.proofs.Common.{ℕ, List, ◌++◌, ap, ◌∙◌}
use Rattle.ep_report_json.proofs.Chained.{link_all, link_more}
use Rattle.ep_report_json.specs.Chains.{link_value}
use Rattle.ep_report_json.proofs.chains.push_link_values.Goals as goal

pub loop-place-preserved : goal.loop-place-preserved
loop-place-preserved c =
    link_more c.loop-place.place c.args.links.now c.args.verdicts.now c.index-links-place.result _ c.index-verdicts-place.result _ c.loop-place.at_start c.loop-place.text.items _ _
    c.loop-place-test.true c.requires c.index-links-place.is c.index-verdicts-place.is c.loop-place.invariant
    (c.in_ok-push_link_value.ensures ∙ ap (λ (t : List ℕ). t ++ link_value c.index-links-place.result c.index-verdicts-place.result) c.in_ok-push_comma.ensures)

pub returns : goal.returns
returns c = link_all c.loop-place.place c.args.links.now c.args.verdicts.now c.loop-place.at_start _ _ c.loop-place-test.false c.loop-place.invariant
