use Rattle.ep_main.proofs.Linked.{line_all, line_more}
use Rattle.ep_main.proofs.chaining.accepted_chain.Goals as goal

pub loop-place-preserved : goal.loop-place-preserved
loop-place-preserved c =
    line_more c.loop-place.place c.args.links.now c.args.verdicts.now c.index-links-place.result _ c.index-verdicts-place.result _ _ _ c.loop-place-test.true c.requires
    c.index-links-place.is c.index-verdicts-place.is c.loop-place.invariant c.in_ok-push_link.ensures

pub returns : goal.returns
returns c = line_all c.loop-place.place c.args.links.now c.args.verdicts.now _ c.loop-place-test.false c.requires c.loop-place.invariant
