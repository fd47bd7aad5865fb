use Rattle.std.proofs.Common.{◌∙◌, sym, ap}
use Rattle.std.specs.FinSet as set
use Rattle.std.specs.Map.{keys_of, lookup}
use Rattle.ep_rules.specs.Maps.{get}
use Rattle.ep_space.specs.Entries.{flat, same}
use Rattle.ep_space.proofs.Lookup.{contains-held, get-held, none_of}
use Rattle.ep_space.proofs.Spots.{spot-reported, has-spot}
use Rattle.ep_space.proofs.table.Table.has_place.Goals as goal

pub returns-clause-value : goal.returns-clause-value
returns-clause-value g c =
    let es = c.self.inside.entries.items in
    has-spot es c.args.id c.spot_of.result
    (spot-reported c.self.inside.spots.items c.deref.result.now (keys_of es) c.args.id c.spot_of.result c.self.invariant c.deref.ensures.value c.spot_of.ensures.in_range c.spot_of.ensures.value)
    ∙ sym (contains-held c.args.id es) ∙ ap (λ h. set.contains h.places c.args.id) c.self.view_is

pub returns-clause-none : goal.returns-clause-none
returns-clause-none g c =
    let es = c.self.inside.entries.items in
    λ f.
    ap (λ h. get h.held c.args.id) (sym c.self.view_is)
    ∙ get-held c.args.id es c.self.invariant.distinct
    ∙ ap flat
    (none_of (lookup (same c.args.id) es)
    (sym
    (has-spot es c.args.id c.spot_of.result
    (spot-reported c.self.inside.spots.items c.deref.result.now (keys_of es) c.args.id c.spot_of.result c.self.invariant c.deref.ensures.value c.spot_of.ensures.in_range c.spot_of.ensures.value))
    ∙ f))
