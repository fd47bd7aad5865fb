use Rattle.std.proofs.Common.{◌≡◌, ◌≤◌, ◌∙◌, sym, ap, subst, length, ℕ, List}
use Rattle.std.proofs.lemmas.List.{get_or_past}
use Rattle.std.specs.Map.{keys_of}
use Rattle.ep_rules.specs.Maps.{get}
use Rattle.ep_space.specs.Entries.{flat, slot, spot}
use Rattle.ep_space.proofs.Lookup.{get-held}
use Rattle.ep_space.proofs.Spots.{spot-none}
use Rattle.ep_space.proofs.table.Table.highest.Goals as goal

pub returns-clause-none : goal.returns-clause-none
returns-clause-none g c = λ i is high.
    let es = c.self.inside.entries.items in
    let ns : List ℕ = c.self.inside.spots.items in
    let past : length ns ≤ slot i = subst (λ (ms : List ℕ). length ms ≤ slot i) c.deref.ensures.value (c.highest_in.ensures.none i is high) in
    let zero : spot i (keys_of es) ≡ 0 = sym (c.self.invariant.reported i is) ∙ get_or_past ns (slot i) 0 past in
    ap (λ h. get h.held i) (sym c.self.view_is) ∙ get-held i es c.self.invariant.distinct ∙ ap flat (spot-none i es zero)
