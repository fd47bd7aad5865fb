-- Values of instances, and the instances that have a place for one.
use Rattle.std.specs.Prelude.{◌≡◌, ℕ, true, refl}
use Rattle.std.specs.Coded.{Coded, code_by, coded×, coded_ℕ}
use Rattle.std.specs.FinMap as map
use Rattle.std.specs.FinSet as set
use Rattle.std.specs.Ordering.{nat_cmp}
use Rattle.ep_rules.specs.Maps.{Map}

abbrev pub Places : Type 0
Places = set.FinSet nat_cmp

abbrev pub HasPlace : Places → ℕ → Type 0
HasPlace places i = set.contains places i ≡ true

pub record Held (X : Type 0) : Type 0 where
  pub held : Map X
  pub places : Places

abbrev pub held_code : {X : Type 0} → Coded X → Coded (Held X)
held_code {X} code =
    code_by (Map X × Places) (coded× (map.code coded_ℕ code) (set.code coded_ℕ)) (λ h. (h.held, h.places)) (λ p. record { held = p.0; places = p.1 }) (λ _. refl)
