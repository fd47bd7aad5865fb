use Rattle.std.proofs.Common.{◌≡◌, ℕ, Option, Some, List, subst, sym}
use Rattle.ep_rules.specs.Maps.{get}
use Rattle.ep_rules.specs.Worlds.{In}
use Rattle.ep_space.specs.Entries.{held}
use Rattle.ep_space.specs.Held.{Held}
use Rattle.ep_space.proofs.Opening.{entries_are}
use Rattle.ep_space.proofs.table.Table.entries.Goals as goal

pub returns : goal.returns
returns g c = λ i x.
    subst (λ (h : Held _). (get h.held i ≡ Some x → In (i, Some x) c.as_slice.result.now) × (In (i, Some x) c.as_slice.result.now → get h.held i ≡ Some x)) c.self.view_is
    (subst (λ (es : List (ℕ × Option _)). (get (held c.self.inside.entries.items).held i ≡ Some x → In (i, Some x) es) × (In (i, Some x) es → get (held c.self.inside.entries.items).held i ≡ Some x)) (sym c.as_slice.ensures.value) (entries_are c.self.inside.entries.items c.self.invariant.distinct i x))
