use Rattle.std.proofs.Common.{rules, List, subst, sym}
use Rattle.std.proofs.lemmas.List.{with_items_is}
use Rattle.ep_host.specs.Host.{IsHost}
use Rattle.ep_host.specs.Node.{Node}
use Rattle.ep_run.specs.Rings.{SettlesReleased, Turns}
use Rattle.ep_run.proofs.ring_run.turned.Goals as goal

pub returns-clause-turns : goal.returns-clause-turns
returns-clause-turns g c =
    let turns = c.args.turns in
    let middle = c.section.result.nodes in
    let after = c.settle_released.new.nodes in
    let is = with_items_is middle after (search rules) in
    subst (λ (l : List Node). Turns turns c.args.nodes.items l) (sym is) record {
      turned = middle.items;
      follows = c.section.ensures.nodes;
      turns = c.section.ensures.turns;
      settles = subst (λ (l : List Node). SettlesReleased turns l after) c.as_mut_slice.ensures.value c.settle_released.ensures.settles;
    }

pub returns-clause-host : goal.returns-clause-host
returns-clause-host g c = λ f host.
    let middle = c.section.result.nodes in
    let after = c.settle_released.new.nodes in
    let is = with_items_is middle after (search rules) in
    subst (λ (l : List Node). IsHost f l) (sym is) (c.settle_released.ensures.host f (subst (λ (l : List Node). IsHost f l) (sym c.as_mut_slice.ensures.value) (c.section.ensures.host f host)))

pub settle_released-requires : goal.settle_released-requires
settle_released-requires g c = let r = c.requires.host in (r.0, subst (λ (l : List Node). IsHost r.0 l) (sym c.as_mut_slice.ensures.value) (c.section.ensures.host r.0 r.1))
