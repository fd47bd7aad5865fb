use Rattle.std.proofs.Common.{◌∙◌, Option, sym, ap, subst}
use Rattle.std.specs.FinSet as set
use Rattle.std.specs.Map.{keys_of, lookup}
use Rattle.std.proofs.lemmas.Map.{keys-set_value}
use Rattle.ep_rules.specs.Maps.{get}
use Rattle.ep_rules.specs.States.{with_held}
use Rattle.ep_rules.specs.declared.record.Record.{Record}
use Rattle.ep_space.specs.Entries.{flat, held, same, AreSpots}
use Rattle.ep_space.specs.Settled.{as_settled}
use Rattle.ep_space.proofs.Lookup.{contains-held, get-held, held-set_value}
use Rattle.ep_space.proofs.Spots.{spot-reported, spot-there}
use Rattle.ep_space.proofs.table.Table+Record.settle.Goals as goal

pub settle_at-requires-clause-there : goal.settle_at-requires-clause-there
settle_at-requires-clause-there c =
    let es = c.self.inside.entries.items in
    spot-there es c.args.id c.spot_of-spot.result
    (spot-reported c.self.inside.spots.items c.deref.result.now (keys_of es) c.args.id c.spot_of-spot.result c.self.invariant c.deref.ensures.value c.spot_of-spot.ensures.in_range c.spot_of-spot.ensures.value)
    (sym (contains-held c.args.id es) ∙ ap (λ h. set.contains h.places c.args.id) c.self.view_is ∙ c.requires)

pub invariant_of-self : goal.invariant_of-self
invariant_of-self c =
    let es = c.self.inside.entries.items in
    let was : Option (Option Record) = lookup (same c.args.id) es in
    subst (λ ks. AreSpots c.self.inside.spots.items ks) (sym (ap keys_of c.settle_at.ensures ∙ keys-set_value (same c.args.id) es (as_settled (flat was)))) c.self.invariant

pub returns : goal.returns
returns c =
    let es = c.self.inside.entries.items in
    let i = c.args.id in
    let was : Option (Option Record) = lookup (same i) es in
    ap held c.settle_at.ensures
    ∙ held-set_value es i (as_settled (flat was)) c.self.invariant.distinct
    (sym (contains-held i es) ∙ ap (λ h. set.contains h.places i) c.self.view_is ∙ c.requires)
    ∙ ap (λ o. record { held = with_held (held es).held i (as_settled o); places = (held es).places }) (sym (get-held i es c.self.invariant.distinct))
    ∙ (λ t. record { held = with_held (c.self.view_is t).held i (as_settled (get (c.self.view_is t).held i)); places = (c.self.view_is t).places })
