use Rattle.std.proofs.Common.{rules, arith, ◌≡◌, ◌≤◌, subst, ap, length, refl, add-one, ℕ}
use Rattle.ep_host.specs.Node.{Node}
use Rattle.ep_host.specs.Turns.{Takes}
use Rattle.ep_host.proofs.Following.{takes_follows}
use Rattle.ep_host.proofs.ring_node.RingNode.take_all.Goals as goal

pub loop-place-init : goal.loop-place-init
loop-place-init c = let e = ap (λ (n : Node). length n.links) c.self.view_is in record { takes = (refl, refl); end = search rules }

pub loop-place-preserved : goal.loop-place-preserved
loop-place-preserved c = record {
  takes = rw add-one (c.loop-place.self, c.loop-place.moved, c.take-now.result, refl, c.loop-place.invariant.takes, c.take-now.ensures);
  end = c.loop-place.invariant.end;
}

pub take-now-requires : goal.take-now-requires
take-now-requires c =
    let low : c.loop-place.place ≤ length c.args.self.now.links = omega (arith, c.loop-place.invariant.end) in
    let f = takes_follows c.loop-place.place c.loop-place.moved c.args.self.now c.loop-place.self low c.loop-place.invariant.takes in
    omega (arith, f.rings.len, c.loop-place.invariant.end)

pub returns : goal.returns
returns c =
    let at : c.loop-place.place ≡ length c.args.self.now.links = omega (arith, c.loop-place.invariant.end) in
    subst (λ (n : ℕ). Takes n c.loop-place.moved c.args.self.now c.loop-place.self) at c.loop-place.invariant.takes
