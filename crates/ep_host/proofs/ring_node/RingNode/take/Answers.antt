use Rattle.std.proofs.Common.{◌<◌, ◌∙◌, length, List, subst, sym, arith, Some}
use Rattle.ep_host.specs.Acts.{IsHandled}
use Rattle.ep_host.specs.Node.{Node}
use Rattle.ep_host.specs.declared.weather.Weather.{Weather}
use Rattle.ep_host.proofs.Booking.{handled_books, pops_books, pops_taken}
use Rattle.ep_host.proofs.Following.{counts}
use Rattle.ep_host.proofs.Turning.{node, takes_frame}
use Rattle.ep_host.proofs.ring_node.RingNode.take.Goals as goal

pub invariant_of-self : goal.invariant_of-self
invariant_of-self c = let i = c.self.inside in
    let low : c.args.place < length i.links.items = subst (λ (n : Node). c.args.place < length n.links) (sym c.self.view_is) c.requires in
    (pops_books i.replica.me i.replica.entries c.args.place c.pop.result i.links.items c.pop.new.links.items low c.pop.ensures c.self.invariant.0, c.self.invariant.1)

pub invariant_of-self-2 : goal.invariant_of-self-2
invariant_of-self-2 c = let i = c.self.inside in let xs = i.links.items in let ys = c.pop.new.links.items in
    let low : c.args.place < length xs = subst (λ (n : Node). c.args.place < length n.links) (sym c.self.view_is) c.requires in (
      handled_books c.as_slice.result.now c.in-Some.frame c.handle-lost.result i.replica c.handle-lost.new.replica ys c.handle-lost.new.links.items c.handle-lost.ensures
          (pops_taken c.args.place c.in-Some.frame xs ys low c.in-Some.ensures) (pops_books i.replica.me i.replica.entries c.args.place (Some c.in-Some.frame) xs ys low c.in-Some.ensures c.self.invariant.0),
      c.self.invariant.1,
    )

pub returns : goal.returns
returns c = let i = c.self.inside in rw (← c.self.view_is)
    (takes_frame c.args.place c.in-Some.frame (node i.replica i.links.items i.weather.items i.agenda.items i.refused.items i.used i.lost i.ended) c.pop.new.links.items c.handle-lost.new.links.items c.handle-lost.new.replica c.handle-lost.result c.saturating_add-self-inside.result
    c.in-Some.ensures
    (subst (λ (w : List Weather). IsHandled w c.in-Some.frame c.handle-lost.result i.replica c.handle-lost.new.replica c.pop.new.links.items c.handle-lost.new.links.items) c.as_slice.ensures.value c.handle-lost.ensures) (c.saturating_add-self-inside.ensures ∙ counts i.lost c.handle-lost.result (omega arith)))
