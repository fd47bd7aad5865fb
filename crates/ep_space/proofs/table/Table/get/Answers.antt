use Rattle.std.proofs.Common.{◌≡◌, ◌∙◌, ℕ, List, sym, ap, arith}
use Rattle.std.specs.Map.{keys_of}
use Rattle.ep_rules.specs.Maps.{get}
use Rattle.ep_space.specs.Entries.{flat, spot, value_at}
use Rattle.ep_space.proofs.Lookup.{get-held}
use Rattle.ep_space.proofs.Spots.{spot-reported, spot-within, value-spot, length-keys}
use Rattle.ep_space.proofs.table.Table.get.Goals as goal

pub value_at-requires : goal.value_at-requires
value_at-requires g c =
    let es = c.self.inside.entries.items in
    let ks : List ℕ = keys_of es in
    let is : c.spot_of.result ≡ spot c.args.id ks =
    spot-reported c.self.inside.spots.items c.deref.result.now ks c.args.id c.spot_of.result c.self.invariant c.deref.ensures.value c.spot_of.ensures.in_range c.spot_of.ensures.value in
    let most = spot-within c.args.id ks in
    let as_many = length-keys es in
    omega (arith, is, most, as_many)

pub returns : goal.returns
returns g c =
    let es = c.self.inside.entries.items in
    let ks : List ℕ = keys_of es in
    let is : c.spot_of.result ≡ spot c.args.id ks =
    spot-reported c.self.inside.spots.items c.deref.result.now ks c.args.id c.spot_of.result c.self.invariant c.deref.ensures.value c.spot_of.ensures.in_range c.spot_of.ensures.value in
    c.value_at.ensures ∙ ap (λ n. flat (value_at es n)) is ∙ ap flat (value-spot c.args.id es) ∙ sym (get-held c.args.id es c.self.invariant.distinct) ∙ ap (λ h. get h.held c.args.id) c.self.view_is
