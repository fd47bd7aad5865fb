use Rattle.std.proofs.Common.{arith, ◌<◌, length, get_or}
use Rattle.std.proofs.lemmas.List.{get_or_default}
use Rattle.ep_host.specs.Node.{Node}
use Rattle.ep_host.specs.Setting.{IsReleased}
use Rattle.ep_host.proofs.Places.{firsts_none, firsts_more, firsts_all}
use Rattle.ep_host.proofs.Releasing.{host_released}
use Rattle.ep_host.proofs.ring_host.RingHost.release.Goals as goal

pub loop-place-init : goal.loop-place-init
loop-place-init c = firsts_none IsReleased c.args.nodes.now

pub loop-place-preserved : goal.loop-place-preserved
loop-place-preserved c =
    let nodes = c.loop-place.nodes in let place = c.loop-place.place in
    let low : place < length nodes = omega (arith, c.loop-place.invariant.len, c.loop-place-test.true) in
    let was : Node = get_or nodes place c.index-nodes-place.result in
    firsts_more IsReleased IsReleased place c.args.nodes.now nodes was c.release.new.self (λ a b h. h) c.loop-place-test.true c.loop-place.invariant (get_or_default nodes place c.index-nodes-place.result was low) c.release.ensures

pub returns-clause-released : goal.returns-clause-released
returns-clause-released c = firsts_all IsReleased c.loop-place.place c.args.nodes.now c.loop-place.nodes c.loop-place-test.false c.loop-place.invariant

pub returns-clause-host : goal.returns-clause-host
returns-clause-host c = λ f host. host_released f c.args.nodes.now c.loop-place.nodes (firsts_all IsReleased c.loop-place.place c.args.nodes.now c.loop-place.nodes c.loop-place-test.false c.loop-place.invariant) host
