use Rattle.std.proofs.Common.{◌≡◌, ◌∙◌, ℕ, List, Option, Result, Ok, Err, ap}
use Rattle.std.specs.Prelude.{OnOk}
use Rattle.std.specs.FinSet as set
use Rattle.std.specs.declared.alloc.AllocError.{AllocError}
use Rattle.ep_space.specs.Entries.{held, with_place}
use Rattle.ep_space.specs.Held.{Held, HasPlace}
use Rattle.ep_space.proofs.Lookup.{held-with_place, place-insert}
use Rattle.ep_space.proofs.table.Table.reserve.Goals as goal

placed : {X : Type 0} (old new : List (ℕ × Option X)) (h : Held X) (i : ℕ) (r : Result (Unit {0}) AllocError) → held old ≡ h → OnOk r (new ≡ with_place old i)
    → OnOk r (held new ≡ record { held = h.held; places = set.insert h.places i })
placed old new h i (Ok x) is ok = ap held ok ∙ held-with_place old i ∙ (λ t. record { held = (is t).held; places = set.insert (is t).places i })
placed old new h i (Err e) is ok = tt

pub returns-clause-ok : goal.returns-clause-ok
returns-clause-ok g c = placed _ _ _ c.args.id c.add_place.result c.self.view_is c.add_place.ensures.ok

has_place : {X : Type 0} (old new : List (ℕ × Option X)) (i : ℕ) (r : Result (Unit {0}) AllocError) → OnOk r (new ≡ with_place old i) → OnOk r (HasPlace (held new).places i)
has_place old new i (Ok x) ok = ap (λ es. set.contains (held es).places i) ok ∙ ap (λ h. set.contains h.places i) (held-with_place old i) ∙ place-insert (held old).places i
has_place old new i (Err e) ok = tt

pub returns-clause-place : goal.returns-clause-place
returns-clause-place g c = has_place _ _ c.args.id c.add_place.result c.add_place.ensures.ok
