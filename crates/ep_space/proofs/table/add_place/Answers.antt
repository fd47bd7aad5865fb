use Rattle.std.proofs.Common.{◌≡◌, ◌∙◌, ◌++◌, ◌∷◌, [], None, List, ℕ, suc, ◌<◌, sym, ap, subst, slice_index_or, slice_set, length, arith}
use Rattle.std.specs.Map.{keys_of}
use Rattle.ep_space.specs.Entries.{slot, AreSpots}
use Rattle.ep_space.proofs.Spots.{spot-reported, placed-there, placed-new, spots-same, spots-push, keys-push, length-keys, length-push}
use Rattle.ep_space.proofs.table.add_place.Goals as goal

pub returns-then-spot_of-ne0-clause-ok : goal.returns-then-spot_of-ne0-clause-ok
returns-then-spot_of-ne0-clause-ok g c =
    placed-there c.args.entries.now.items c.args.id c.spot_of.result
    (spot-reported c.args.spots.now.items c.deref.result.now (keys_of c.args.entries.now.items) c.args.id c.spot_of.result c.requires c.deref.ensures.value c.spot_of.ensures.in_range c.spot_of.ensures.value)
    c.if-spot_of-ne0.true

pub returns-clause-ok : goal.returns-clause-ok
returns-clause-ok g c =
    c.in_ok-add_entry.ensures.ok
    ∙ placed-new c.args.entries.now.items c.args.id c.spot_of.result
    (spot-reported c.args.spots.now.items c.deref.result.now (keys_of c.args.entries.now.items) c.args.id c.spot_of.result c.requires c.deref.ensures.value c.spot_of.ensures.in_range c.spot_of.ensures.value)
    c.if-spot_of-ne0.false

pub returns-clause-spots : goal.returns-clause-spots
returns-clause-spots g c =
    let es = c.args.entries.now.items in
    let ks : List ℕ = keys_of es in
    let wide = c.widen.new.spots.items in
    let i = c.args.id in
    let free : slice_index_or wide (slot i) 0 ≡ 0 =
    c.widen.ensures.same (slot i) ∙ (λ d. slice_index_or (sym c.deref.ensures.value d) (slot i) 0) ∙ sym c.spot_of.ensures.value ∙ c.if-spot_of-ne0.false in
    let pushed : keys_of c.add_entry.new.entries.items ≡ ks ++ i ∷ [] = ap keys_of c.in_ok-add_entry.ensures.ok ∙ keys-push es (i, None) in
    let as_many = length-keys es in
    let longer : length c.add_entry.new.entries.items ≡ suc (length es) = ap length c.in_ok-add_entry.ensures.ok ∙ length-push es (i, None) in
    let long = c.len.ensures in
    let valid = c.add_entry.new.entries.ok.0 in
    let last : c.len.result ≡ suc (length ks) = omega (arith, as_many, longer, long, valid) in
    let within = subst (λ s. s < length wide) c.slot_of.ensures.value c.in_ok-widen.ensures.slot in
    subst (λ s. AreSpots (slice_set wide s c.len.result) (keys_of c.add_entry.new.entries.items)) (sym c.slot_of-2.ensures.value)
    (subst (λ qs. AreSpots (slice_set wide (slot i) c.len.result) qs) (sym pushed)
    (spots-push wide ks i c.len.result (spots-same c.args.spots.now.items wide ks c.requires c.widen.ensures.same) c.spot_of.ensures.in_range within free last))
