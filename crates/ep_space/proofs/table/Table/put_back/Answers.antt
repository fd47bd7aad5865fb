use Rattle.std.proofs.Common.{◌∙◌, sym, ap, subst}
use Rattle.std.specs.FinSet as set
use Rattle.std.specs.Map.{keys_of}
use Rattle.std.proofs.lemmas.Map.{keys-set_value}
use Rattle.ep_rules.specs.Maps.{get}
use Rattle.ep_rules.specs.States.{with_held}
use Rattle.ep_space.specs.Entries.{flat, held, same, AreSpots}
use Rattle.ep_space.proofs.Lookup.{contains-held, get-held, held-set_value}
use Rattle.ep_space.proofs.Spots.{spot-reported, spot-there}
use Rattle.ep_space.proofs.table.Table.put_back.Goals as goal

pub replace-requires-clause-there : goal.replace-requires-clause-there
replace-requires-clause-there g c =
    let es = c.self.inside.entries.items in
    spot-there es c.args.id c.spot_of-spot.result
    (spot-reported c.self.inside.spots.items c.deref.result.now (keys_of es) c.args.id c.spot_of-spot.result c.self.invariant c.deref.ensures.value c.spot_of-spot.ensures.in_range c.spot_of-spot.ensures.value)
    (sym (contains-held c.args.id es) ∙ ap (λ h. set.contains h.places c.args.id) c.self.view_is ∙ c.requires)

pub invariant_of-self : goal.invariant_of-self
invariant_of-self g c =
    subst (λ ks. AreSpots c.self.inside.spots.items ks) (sym (ap keys_of c.replace.ensures.new ∙ keys-set_value (same c.args.id) c.self.inside.entries.items c.args.value)) c.self.invariant

pub returns-clause-old : goal.returns-clause-old
returns-clause-old g c =
    ap flat c.replace.ensures.old ∙ sym (get-held c.args.id c.self.inside.entries.items c.self.invariant.distinct) ∙ ap (λ h. get h.held c.args.id) c.self.view_is

pub returns-clause-new : goal.returns-clause-new
returns-clause-new g c =
    ap held c.replace.ensures.new
    ∙ held-set_value c.self.inside.entries.items c.args.id c.args.value c.self.invariant.distinct
    (sym (contains-held c.args.id c.self.inside.entries.items) ∙ ap (λ h. set.contains h.places c.args.id) c.self.view_is ∙ c.requires)
    ∙ (λ t. record { held = with_held (c.self.view_is t).held c.args.id c.args.value; places = (c.self.view_is t).places })
