use Rattle.std.proofs.Common.{arith, ◌<◌, length, refl, get_or}
use Rattle.std.proofs.lemmas.List.{get_or_default}
use Rattle.ep_host.specs.Setting.{CountsAnew}
use Rattle.ep_host.specs.declared.link.Link.{Link}
use Rattle.ep_host.proofs.Places.{firsts_none, firsts_more, firsts_all}
use Rattle.ep_host.proofs.setting.count_anew.Goals as goal

pub loop-place-init : goal.loop-place-init
loop-place-init c = firsts_none CountsAnew c.args.links.now

pub loop-place-preserved : goal.loop-place-preserved
loop-place-preserved c =
    let links = c.loop-place.links in let place = c.loop-place.place in
    let low : place < length links = omega (arith, c.loop-place.invariant.len, c.loop-place-test.true) in
    let was : Link = get_or links place c.index-links-place.result in
    firsts_more CountsAnew CountsAnew place c.args.links.now links was (record was { count = 0 }) (λ a b h. h) c.loop-place-test.true c.loop-place.invariant (get_or_default links place c.index-links-place.result was low) refl

pub returns : goal.returns
returns c = firsts_all CountsAnew c.loop-place.place c.args.links.now c.loop-place.links c.loop-place-test.false c.loop-place.invariant
