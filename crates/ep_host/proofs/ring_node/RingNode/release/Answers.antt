use Rattle.std.proofs.Common.{rules, ◌≡◌, length, subst, sym, List}
use Rattle.ep_host.specs.Rings.{IsBooked}
use Rattle.ep_host.specs.Setting.{ReleasesAll}
use Rattle.ep_host.specs.declared.link.Link.{Link}
use Rattle.ep_host.proofs.Releasing.{in_place, released_books}
use Rattle.ep_host.proofs.ring_node.RingNode.release.Goals as goal

pub invariant_of-self : goal.invariant_of-self
invariant_of-self c = let i = c.self.inside in let ys = c.release_all-self-inside.new.links in
    let len : length ys ≡ i.links.len = search rules in
    let is = in_place i.links.items ys i.links.len len in (
      subst (λ (l : List Link). IsBooked i.replica.me i.replica.entries l) (sym is)
          (released_books i.replica.me i.replica.entries i.lost c.release_all-self-inside.result i.links.items ys (subst (λ (l : List Link). ReleasesAll i.lost c.release_all-self-inside.result l ys) c.deref_mut.ensures.value c.release_all-self-inside.ensures) c.self.invariant.0),
      c.self.invariant.1,
    )
