-- What an execution orders is recorded, so a version has its instances where it has the state.
use Rattle.std.proofs.Common.{◌≡◌, ℕ, List, Option, Some, None, inl, inr, refl, subst}
use Rattle.std.specs.List.{AllByRecursion}
use Rattle.ep_base.specs.Places.{Has}
use Rattle.ep_base.specs.Versions.{IsInstanceIn}
use Rattle.ep_base.specs.declared.attrs.Attrs.{Attrs}
use Rattle.ep_base.specs.declared.version.Version.{Version}
use Rattle.ep_rules.proofs.Closed.{listed_reached}
use Rattle.ep_rules.specs.Cells.{record_or_fresh, committed_decree}
use Rattle.ep_rules.specs.Graph.{Reaches}
use Rattle.ep_rules.specs.Maps.{Map, get}
use Rattle.ep_rules.specs.Order.{IsPlan}
use Rattle.ep_rules.specs.States.{State, attrs_of, graph_in}
use Rattle.ep_rules.specs.declared.record.Record.{Record}
use Rattle.ep_space.proofs.Rising.{all_from}
use Rattle.ep_journal.specs.Holding.{Holds}

found : (i : ℕ) (o : Option Record) (a : Attrs) → attrs_of (committed_decree (record_or_fresh i o).vote) ≡ Some a → (r : Record) × (o ≡ Some r)
found i None a e = absurd (cc)
found i (Some r) a e = (r, refl)

-- what holds of all that is recorded holds of all that is ordered
pub planned_all : (P : ℕ → Type 0) (m : Map Record) (executed : List ℕ) (root : ℕ) (order : List ℕ) → ((i : ℕ) (r : Record) → get m i ≡ Some r → P i) → IsPlan (graph_in m) executed root order → AllByRecursion P order
planned_all P m executed root order all (inl p) = rw p.1 tt
planned_all P m executed root order all (inr p) = all_from P order (λ j has.
    let reached : Reaches (graph_in m) root j = listed_reached (graph_in m) executed root p.1.1.0 p.1.1.2 j (subst (λ xs. Has xs j) p.1.1.1 has) in
    let committed = p.1.0 j reached in
    let r = found j (get m j) committed.0 committed.1 in
    all j r.0 r.1)

pub planned_in : (v : Version) (s : State) (executed : List ℕ) (root : ℕ) (order : List ℕ) → Holds v s → IsPlan (graph_in s.records) executed root order → AllByRecursion (IsInstanceIn v) order
planned_in v s executed root order held plan = planned_all (IsInstanceIn v) s.records executed root order (λ i r h. (held.records i r h).0) plan
