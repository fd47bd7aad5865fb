use Rattle.std.proofs.Common.{rules, ◌≡◌, ◌∙◌, ℕ, ◌<◌, List, length, take, ap, refl, sym, subst, arith}
use Rattle.std.proofs.Math.Seq.{take-length}
use Rattle.ep_host.specs.Node.{Node}
use Rattle.ep_run.specs.Rings.{Collects, given_after, given_at}
use Rattle.ep_run.proofs.Running.{blank, collects_none, collects_more}
use Rattle.ep_run.proofs.ring_run.RingRun.collect_all.Goals as goal

pub loop-place-init : goal.loop-place-init
loop-place-init c = record { nodes = refl; collected = refl; receipts = collects_none c.args.self.now.collected.items c.args.self.now.nodes.items c.args.self.now.clients c.args.self.now.receipts.items; end = search rules }

pub loop-place-preserved : goal.loop-place-preserved
loop-place-preserved c =
    let old = c.args.self.now in
    let mid = c.loop-place.self in
    let new = c.collect.new.self in
    let place = c.loop-place.place in
    let nodes : mid.nodes.items ≡ old.nodes.items = (let n = c.loop-place.invariant.nodes in cc) in
    let marks : mid.collected.items ≡ old.collected.items = (let n = c.loop-place.invariant.collected in cc) in
    let low : place < length old.collected.items = omega (arith, c.requires, c.loop-place.invariant.end) in
    let more : Collects (given_at place old.collected.items old.nodes.items blank) old.nodes.items mid.clients mid.receipts.items new.clients new.receipts.items =
    subst (λ (l : List ℕ). Collects (given_at place l old.nodes.items blank) old.nodes.items mid.clients mid.receipts.items new.clients new.receipts.items) marks
    (subst (λ (l : List Node). Collects (given_at place mid.collected.items l blank) l mid.clients mid.receipts.items new.clients new.receipts.items) nodes (c.in_ok-collect.ensures.receipts blank)) in record {
      nodes = c.in_ok-collect.ensures.nodes ∙ c.loop-place.invariant.nodes;
      collected = c.in_ok-collect.ensures.collected ∙ c.loop-place.invariant.collected;
      receipts = collects_more place old.collected.items old.nodes.items blank old.clients mid.clients new.clients old.receipts.items mid.receipts.items new.receipts.items low c.requires c.loop-place.invariant.receipts more;
      end = c.loop-place.invariant.end;
    }
