use Rattle.std.proofs.Common.{rules, ◌≡◌, ◌∙◌, length, subst, sym, List, take, drop, ◌++◌}
use Rattle.ep_host.specs.Pointwise.{Each}
use Rattle.ep_host.specs.Rings.{IsBooked}
use Rattle.ep_host.specs.Setting.{CountsAnew}
use Rattle.ep_host.specs.declared.link.Link.{Link}
use Rattle.ep_host.proofs.Releasing.{in_place, counted_books}
use Rattle.ep_host.proofs.ring_node.RingNode.set_weather.Goals as goal

pub invariant_of-self-2 : goal.invariant_of-self-2
invariant_of-self-2 c = let i = c.self.inside in let ys = c.count_anew.new.links in
    let len : length ys ≡ i.links.len = search rules in
    let is = in_place (take i.links.len (c.make_room.new.links ++ drop (length c.make_room.new.links) i.links.items)) ys i.links.len len in
    let made = c.make_room.new.links in
    let len' : length made ≡ i.links.len = search rules in
    let before = c.deref_mut-2.ensures.value ∙ in_place i.links.items made i.links.len len' ∙ c.make_room.ensures ∙ c.deref_mut.ensures.value in
    let counts : Each CountsAnew i.links.items ys = subst (λ (l : List Link). Each CountsAnew l ys) before c.count_anew.ensures in (
      subst (λ (l : List Link). IsBooked i.replica.me i.replica.entries l) (sym is)
          (counted_books i.replica.me i.replica.entries i.links.items ys counts c.self.invariant.0),
      c.self.invariant.1,
    )
