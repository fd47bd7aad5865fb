use Rattle.std.proofs.Common.{arith, ◌<◌, length, refl, get_or}
use Rattle.std.proofs.lemmas.List.{get_or_default}
use Rattle.ep_host.specs.Outboxes.{CountsFromNone}
use Rattle.ep_host.specs.declared.outlet.Outlet.{Outlet}
use Rattle.ep_host.proofs.Places.{firsts_none, firsts_more, firsts_all}
use Rattle.ep_host.proofs.outlets.count_anew.Goals as goal

pub loop-place-init : goal.loop-place-init
loop-place-init c = firsts_none CountsFromNone c.args.outlets.now

pub loop-place-preserved : goal.loop-place-preserved
loop-place-preserved c =
    let outlets = c.loop-place.outlets in let place = c.loop-place.place in
    let low : place < length outlets = omega (arith, c.loop-place.invariant.len, c.loop-place-test.true) in
    let was : Outlet = get_or outlets place c.index-outlets-place.result in
    firsts_more CountsFromNone CountsFromNone place c.args.outlets.now outlets was (record was { count = 0 }) (λ a b h. h) c.loop-place-test.true c.loop-place.invariant (get_or_default outlets place c.index-outlets-place.result was low) refl

pub returns : goal.returns
returns c = firsts_all CountsFromNone c.loop-place.place c.args.outlets.now c.loop-place.outlets c.loop-place-test.false c.loop-place.invariant
